use Rattle.til_resolve.specs.Graph.{AreOrdered}
use Rattle.til_resolve.proofs.tables.are_ordered.Given as goal

abbrev pub invariant-numbers : goal.invariant-numbers
invariant-numbers l = AreOrdered l.ranks l.order l.number-counter
