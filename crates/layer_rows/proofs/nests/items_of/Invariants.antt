use Rattle.std.specs.List.{All}
use Rattle.nest_shape.specs.Shape.{ClosesBelow}
use Rattle.layer_rows.proofs.nests.items_of.Given as goal

-- no item closes more than these dimensions
abbrev pub invariant-bytes : goal.invariant-bytes
invariant-bytes l = All (ClosesBelow l.dims) l.items
