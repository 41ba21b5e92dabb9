use Rattle.std.proofs.Common.{◌≡◌, length, map}
use Rattle.til_resolve.specs.PlainProject.{plain_streamlet}
use Rattle.link_check.specs.Counts.{IsBelow, room}
use Rattle.link_check.proofs.sizes.is_too_large.Given as goal

-- no count is too high
abbrev pub invariant-rounds : goal.invariant-rounds
invariant-rounds l = record {
  long : length l.counts.items ≡ length l.streamlets;
  below : IsBelow (map plain_streamlet l.streamlets) l.counts.items;
}

abbrev pub decreases-rounds : goal.decreases-rounds
decreases-rounds l = room l.counts.items
