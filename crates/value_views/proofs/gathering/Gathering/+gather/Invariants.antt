use Rattle.std.proofs.Common.{◌≡◌, ◌++◌, ◌+◌, ◌*◌, drop, length, map}
use Rattle.nest_shape.specs.Tree as nests
use Rattle.logical_types.specs.Tree as types
use Rattle.logical_value.specs.Tree.{plain, plain_values}
use Rattle.logical_value.proofs.FitLemmas.{size_of_value, size_of_values}
use Rattle.value_views.specs.Way.{gathered}
use Rattle.value_views.proofs.gathering.Gathering.+gather.Given as goal

abbrev pub decreases-gather : goal.decreases-gather
decreases-gather l = 4 * (size_of_values (plain_values l.values.now) + length l.way.now) + 3

abbrev pub decreases-gather_value : goal.decreases-gather_value
decreases-gather_value l = 4 * (size_of_value (plain l.value.now) + length l.way.now) + 2

abbrev pub decreases-gather_members : goal.decreases-gather_members
decreases-gather_members l = 4 * (size_of_value (plain l.value.now) + length l.way.now) + 1

abbrev pub decreases-gather_leaf : goal.decreases-gather_leaf
decreases-gather_leaf l = 4 * (size_of_value (plain l.value.now) + length l.way.now) + 1

abbrev pub decreases-gather_along : goal.decreases-gather_along
decreases-gather_along l = 4 * (size_of_value (plain l.value.now) + length l.more.now) + 4

-- the view of the values so far, with that of those that are left, is all
abbrev pub invariant-gather-values : goal.invariant-gather-values
invariant-gather-values l = map nests.plain l.nests ++ gathered (types.plain l.self.element.now) l.way l.depth (map plain (drop l.value-index l.values))
    ≡ map nests.plain l.initial.nests ++ gathered (types.plain l.self.element.now) l.way l.depth (map plain l.values)
