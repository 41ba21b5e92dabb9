use Rattle.std.proofs.Common.{◌≡◌, ◌+◌, ◌*◌, drop, map}
use Rattle.logical_value.specs.Tree.{plain}
use Rattle.value_views.specs.Along.{selecting}
use Rattle.value_views.proofs.comparing.+counts.Given as goal

abbrev pub decreases-take_off : goal.decreases-take_off
decreases-take_off l = 2 * l.depth

abbrev pub decreases-count_off : goal.decreases-count_off
decreases-count_off l = 2 * l.depth + 1

abbrev pub invariant-count_off-values : goal.invariant-count_off-values
invariant-count_off-values l = l.left + selecting l.way l.depth (map plain l.values) ≡ l.count + selecting l.way l.depth (map plain (drop l.value-index l.values))
