use Rattle.std.proofs.Common.{◌≡◌, take}
use Rattle.nest_shape.specs.Building.{StandsFor}
use Rattle.nest_shape.proofs.building.build.Given as goal

-- the builder was given the items so far
abbrev pub invariant-items : goal.invariant-items
invariant-items l = record { stands : StandsFor l.builder (take l.number l.items); dims : l.builder.dims ≡ l.dims }
