use Rattle.std.proofs.Common.{◌≡◌, length}
use Rattle.logical_types.specs.NameOrder.{name_cmp}
use Rattle.logical_types.proofs.names.compare_names.Given as goal

-- what is left of the names has their order
abbrev pub invariant-bytes : goal.invariant-bytes
invariant-bytes l = name_cmp l.left l.right ≡ name_cmp l.one l.other

abbrev pub decreases-bytes : goal.decreases-bytes
decreases-bytes l = length l.left
