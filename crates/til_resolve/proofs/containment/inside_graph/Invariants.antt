use Rattle.til_resolve.specs.Graph.{HasInside}
use Rattle.til_resolve.specs.Scope.{declarations_of}
use Rattle.til_resolve.proofs.containment.inside_graph.Given as goal

abbrev pub invariant-numbers : goal.invariant-numbers
invariant-numbers l = HasInside (declarations_of l.scope.declared) l.graph.items l.number
