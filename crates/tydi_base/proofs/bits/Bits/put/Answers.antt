use Rattle.std.proofs.Common.{◌≡◌, set}
use Rattle.tydi_base.specs.Bits.{unpack}
use Rattle.tydi_base.proofs.BitPlaces.{put_packed, put_view}
use Rattle.tydi_base.proofs.bits.Bits.put.Goals as goal
use Rattle.tydi_base.proofs.bits.Bits.put.Goals.{After-put_at}

written : (c : After-put_at) → unpack c.put_at.new.bytes ≡ set (unpack c.self.inside.bytes.items) c.args.index c.args.bit
written c = rw (← c.as_mut_slice.ensures.value) c.put_at.ensures

pub invariant_of-self : goal.invariant_of-self
invariant_of-self c =
    put_packed c.self.inside.len c.args.index c.self.inside.bytes.items c.put_at.new.bytes c.args.self.now c.args.bit
    c.self.invariant c.self.view_is c.requires (written (goal.at.invariant_of-self c).After-put_at)

pub returns : goal.returns
returns c =
    put_view c.self.inside.len c.args.index c.self.inside.bytes.items c.put_at.new.bytes c.args.self.now c.args.bit
    c.self.invariant c.self.view_is c.requires (written (goal.at.returns c).After-put_at)
