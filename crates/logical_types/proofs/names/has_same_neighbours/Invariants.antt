use Rattle.std.proofs.Common.{◌≡◌, ℕ, ◌+◌, ◌<◌, false}
use Rattle.logical_types.specs.NameOrder.{has_same_next}
use Rattle.logical_types.proofs.names.has_same_neighbours.Given as goal

-- no two so far that stand together have one name
abbrev pub invariant-places : goal.invariant-places
invariant-places g l = (k : ℕ) → k + 1 < l.place → has_same_next (g.N.Named.names l.parts) l.numbers k ≡ false
