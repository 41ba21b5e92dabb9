use Rattle.std.proofs.Common.{arith, sym}
use Rattle.tydi_base.proofs.HexBytes.{word_at-length}
use Rattle.tydi_base.proofs.bits.Bits.from_exact_hex.Goals as goal

pub returns-then-digits-div_ceil : goal.returns-then-digits-div_ceil
returns-then-digits-div_ceil c =
    sym (word_at-length c.args.width c.args.digits.now (λ same. c.if-digits-div_ceil.true (omega (arith, same))))
