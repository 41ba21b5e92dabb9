use Rattle.std.proofs.Common.{◌≡◌, ◌+◌, length}
use Rattle.value_text.specs.Stops.{common_length}
use Rattle.value_text.proofs.stops.common_length.Given as goal

-- the bytes so far and those that are left to compare are all
abbrev pub invariant-bytes : goal.invariant-bytes
invariant-bytes l = record {
  all : common_length l.one l.other ≡ l.count + common_length l.rest l.others;
  counted : l.count + length l.rest ≡ length l.one;
}

abbrev pub decreases-bytes : goal.decreases-bytes
decreases-bytes l = length l.rest
