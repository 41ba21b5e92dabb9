use Rattle.std.proofs.Common.{◌≡◌, ◌∙◌}
use Rattle.tydi_base.proofs.BitsLemmas.{copy_lengths, copy_packed, copy_view}
use Rattle.tydi_base.proofs.bits.Bits.copy_from.Goals as goal
use Rattle.tydi_base.proofs.bits.Bits.copy_from.Goals.{After-copy_bytes}

copied : (c : After-copy_bytes) → c.copy_bytes.new.bytes ≡ c.from.inside.bytes.items
copied c = c.copy_bytes.ensures ∙ c.as_slice.ensures

pub copy_bytes-requires : goal.copy_bytes-requires
copy_bytes-requires c =
    rw (c.as_mut_slice-bytes.ensures.value, c.as_slice.ensures)
    (copy_lengths c.self.inside.len c.from.inside.len c.self.inside.bytes.items c.from.inside.bytes.items c.args.self.now c.args.from.now
    c.self.invariant c.from.invariant c.self.view_is c.from.view_is c.requires)

pub invariant_of-self : goal.invariant_of-self
invariant_of-self c =
    copy_packed c.self.inside.len c.from.inside.len c.self.inside.bytes.items c.from.inside.bytes.items c.copy_bytes.new.bytes
    c.args.self.now c.args.from.now c.self.invariant c.from.invariant c.self.view_is c.from.view_is c.requires
    (copied (goal.at.invariant_of-self c).After-copy_bytes)

pub returns : goal.returns
returns c =
    copy_view c.self.inside.len c.from.inside.len c.self.inside.bytes.items c.from.inside.bytes.items c.copy_bytes.new.bytes
    c.args.self.now c.args.from.now c.self.invariant c.from.invariant c.self.view_is c.from.view_is c.requires
    (copied (goal.at.returns c).After-copy_bytes)
