use Rattle.std.proofs.Common.{◌+◌, ◌-◌, ◌*◌, List, length, map}
use Rattle.logical_types.specs.Tree.{plain}
use Rattle.logical_value.specs.Tree as values
use Rattle.logical_value.specs.Tree.{Tree}
use Rattle.value_views.specs.Taking.{NestsWait, left}
use Rattle.value_views.proofs.SlotLemmas.{NestsPlaced}
use Rattle.value_views.proofs.filling.Filling.+nests.Given as goal

abbrev pub decreases-fill_nest : goal.decreases-fill_nest
decreases-fill_nest l = 2 * l.depth

abbrev pub decreases-fill_nests : goal.decreases-fill_nests
decreases-fill_nests l = 2 * l.depth + 1

abbrev pub decreases-fill_nests-ones : goal.decreases-fill_nests-ones
decreases-fill_nests-ones l = length l.filled - l.at

-- the nests from the place on wait, and those before it are filled
abbrev pub invariant-fill_nests-ones : goal.invariant-fill_nests-ones
invariant-fill_nests-ones l = (some : List Tree) (more : List Tree) → NestsWait (left l.initial.self) l.number (plain l.ltype) l.depth (map values.plain l.fn.ones) some more
    → NestsPlaced (left l.initial.self) (left l.self) l.number (plain l.ltype) l.depth l.filled l.at some more
