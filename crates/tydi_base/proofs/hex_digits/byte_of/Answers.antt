use Rattle.std.proofs.Common.{arith}
use Rattle.tydi_base.proofs.HexBytes.{one_digit, two_digits}
use Rattle.tydi_base.proofs.hex_digits.byte_of.Goals as goal

pub returns-then-digits-eq1 : goal.returns-then-digits-eq1
returns-then-digits-eq1 c = one_digit c.args.digits.now c.digit_value.result (omega arith) c.digit_value.ensures.value

pub returns-else-digits-eq1 : goal.returns-else-digits-eq1
returns-else-digits-eq1 c = two_digits c.args.digits.now c.byte_value.result (omega arith) c.byte_value.ensures
