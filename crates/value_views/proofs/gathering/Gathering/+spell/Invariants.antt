use Rattle.std.proofs.Common.{◌≡◌, ◌++◌, ◌+◌, ◌*◌, drop, map}
use Rattle.logical_types.specs.Tree as types
use Rattle.logical_value.specs.Tree.{plain, plain_values}
use Rattle.logical_value.proofs.FitLemmas.{size_of_value, size_of_values}
use Rattle.value_views.specs.Spelled.{spelled}
use Rattle.value_views.proofs.gathering.Gathering.+spell.Given as goal

abbrev pub decreases-spell : goal.decreases-spell
decreases-spell l = 4 * size_of_values (plain_values l.values.now) + 3

abbrev pub decreases-spell_value : goal.decreases-spell_value
decreases-spell_value l = 4 * size_of_value (plain l.value.now) + 2

abbrev pub decreases-spell_list : goal.decreases-spell_list
decreases-spell_list l = 4 * size_of_value (plain l.value.now) + 1

-- the items of the values so far, with those of the values that are left, are all
abbrev pub invariant-spell-values : goal.invariant-spell-values
invariant-spell-values l = l.items ++ spelled (types.plain l.self.element.now) l.depth (map plain (drop l.value-index l.values))
    ≡ l.initial.items ++ spelled (types.plain l.self.element.now) l.depth (map plain l.values)
