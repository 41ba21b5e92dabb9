use Rattle.std.proofs.Common.{arith}
use Rattle.std.proofs.lemmas.List.{length-take}
use Rattle.tydi_base.proofs.HexPacking.{filled_low}
use Rattle.tydi_base.specs.Bits.{unpack}
use Rattle.tydi_base.proofs.HexWordLemmas.{hex_bits-filled}
use Rattle.tydi_base.proofs.hex_word.fill_low.Goals as goal

pub returns-clause-digits : goal.returns-clause-digits
returns-clause-digits c = λ told. hex_bits-filled c.args.digits.now (unpack c.fill_digits.new.bytes) c.fill_digits.result c.fill_digits.ensures told

pub returns-clause-bits : goal.returns-clause-bits
returns-clause-bits c bits are =
    filled_low c.args.digits.now c.fill_digits.new.bytes c.args.bytes.now c.fill_digits.result bits c.div_ceil.result c.div_ceil.ensures
    (omega (arith, c.fill_digits.auto.bytes, length-take c.div_ceil.result c.args.bytes.now)) (omega arith) c.requires.zeros c.fill_digits.ensures are
