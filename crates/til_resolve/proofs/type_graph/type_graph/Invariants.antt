use Rattle.std.proofs.Common.{◌≡◌}
use Rattle.til_resolve.specs.Graph.{type_graph}
use Rattle.til_resolve.specs.Scope.{declarations_of}
use Rattle.til_resolve.proofs.type_graph.type_graph.Given as goal

abbrev pub invariant-numbers : goal.invariant-numbers
invariant-numbers l = l.graph ≡ type_graph (declarations_of l.scope.declared) l.number
