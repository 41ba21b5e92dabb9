use Rattle.std.proofs.Common.{◌≡◌, ◌++◌, length, reverse}
use Rattle.value_views.proofs.joining.reversed.Given as goal

abbrev pub decreases-rest : goal.decreases-rest
decreases-rest l = length l.rest

abbrev pub invariant-rest : goal.invariant-rest
invariant-rest l = l.some ++ reverse l.rest ≡ reverse l.fn.series
