use Rattle.std.proofs.Common.{◌≤◌, ◌-◌, length}
use Rattle.value_views.proofs.given.empty_series.Given as goal

abbrev pub decreases-count : goal.decreases-count
decreases-count l = l.count - length l.series.items

abbrev pub invariant-count : goal.invariant-count
invariant-count l = length l.series.items ≤ l.count
