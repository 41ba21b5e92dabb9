use Rattle.std.proofs.Common.{sym}
use Rattle.tydi_base.proofs.BitPlaces.{get_or-unpack}
use Rattle.tydi_base.proofs.bits.bit_at.Goals as goal

pub returns : goal.returns
returns c = sym (get_or-unpack c.args.bytes.now c.args.index c.requires)
