use Rattle.tydi_base.proofs.BitPlaces.{set-unpack}
use Rattle.tydi_base.proofs.bits.put_at.Goals as goal

pub returns : goal.returns
returns c = set-unpack c.args.bytes.now c.args.index c.with_bit.result c.args.bit c.requires c.with_bit.ensures
