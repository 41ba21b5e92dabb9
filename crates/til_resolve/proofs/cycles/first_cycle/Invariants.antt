use Rattle.til_resolve.specs.Earliest.{IsEarliest, IsBelow}
use Rattle.til_resolve.specs.Scope.{declarations_of}
use Rattle.til_resolve.specs.Suspects.{IsCyclicAt}
use Rattle.til_resolve.proofs.cycles.first_cycle.Given as goal

abbrev pub invariant-numbers : goal.invariant-numbers
invariant-numbers l = IsEarliest (IsBelow (IsCyclicAt l.site (declarations_of l.scope.declared) l.graph) l.number) l.found
