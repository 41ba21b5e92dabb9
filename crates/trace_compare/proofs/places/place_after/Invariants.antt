use Rattle.std.proofs.Common.{◌≡◌, ◌++◌}
use Rattle.trace_compare.specs.Places.{counts_down}
use Rattle.trace_compare.proofs.places.place_after.Given as goal

-- the counts so far, and those of the ranks that are left, are all
abbrev pub invariant-ranks : goal.invariant-ranks
invariant-ranks l = l.place ++ counts_down l.rank l.items ≡ counts_down l.dims l.items

abbrev pub decreases-ranks : goal.decreases-ranks
decreases-ranks l = l.rank
