use Rattle.std.proofs.Common.{◌≡◌, ◌++◌, ◌+◌, ◌*◌, drop, map}
use Rattle.logical_types.specs.Tree.{plain}
use Rattle.logical_value.specs.Tree as values
use Rattle.value_views.specs.Words.{blank_of, in_nest}
use Rattle.value_views.proofs.given.+blanks.Given as goal

abbrev pub decreases-blank_nest : goal.decreases-blank_nest
decreases-blank_nest l = 2 * l.depth

abbrev pub decreases-blank_nests : goal.decreases-blank_nests
decreases-blank_nests l = 2 * l.depth + 1

abbrev pub invariant-blank_nests-shape : goal.invariant-blank_nests-shape
invariant-blank_nests-shape l =
    map values.plain l.some ++ map (in_nest (λ (v : values.Tree). blank_of (plain l.element)) l.depth) (map values.plain (drop l.one-index l.shape))
    ≡ map (in_nest (λ (v : values.Tree). blank_of (plain l.element)) l.depth) (map values.plain l.shape)
