use Rattle.std.proofs.Common.{◌≡◌, ◌+◌, ◌≤◌, false, cond, length, map}
use Rattle.til_resolve.specs.PlainProject.{plain_streamlet}
use Rattle.link_check.specs.Counts.{HasSettled, IsBelow, room}
use Rattle.link_check.proofs.sizes.raise_all.Given as goal

-- the counts so far are raised
abbrev pub invariant-numbers : goal.invariant-numbers
invariant-numbers l = record {
  long : length l.counts ≡ length l.initial.counts;
  below : IsBelow (map plain_streamlet l.streamlets) l.initial.counts → IsBelow (map plain_streamlet l.streamlets) l.counts;
  settled : l.raised ≡ false → HasSettled (map plain_streamlet l.streamlets) l.counts l.number;
  less : room l.counts + (cond l.raised 1 0) ≤ room l.initial.counts;
}
