use Rattle.std.proofs.Common.{◌≡◌, ◌++◌, drop}
use Rattle.nest_shape.specs.Flat.{flat_all}
use Rattle.nest_shape.specs.Tree.{plain_nests}
use Rattle.nest_shape.proofs.flattening.+flatten.Given as goal

-- the items so far, with those of the nests that are left, are all
abbrev pub invariant-push_nests-nests : goal.invariant-push_nests-nests
invariant-push_nests-nests l = l.items ++ flat_all l.depth (plain_nests (drop l.nest-index l.nests)) ≡ l.initial.items ++ flat_all l.depth (plain_nests l.nests)
