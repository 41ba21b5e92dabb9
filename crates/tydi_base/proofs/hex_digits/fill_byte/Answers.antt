use Rattle.tydi_base.proofs.HexBytes.{set_one}
use Rattle.tydi_base.proofs.hex_digits.fill_byte.Goals as goal

pub returns-in-Some : goal.returns-in-Some
returns-in-Some c = rw (set_one c.args.bytes.now c.in-Some.byte c.requires.one) c.in-Some.ensures
