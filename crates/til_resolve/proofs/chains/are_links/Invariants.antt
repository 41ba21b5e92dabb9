use Rattle.til_resolve.specs.Chains.{AreLinks}
use Rattle.til_resolve.specs.Scope.{declarations_of}
use Rattle.til_resolve.proofs.chains.are_links.Given as goal

abbrev pub invariant-numbers : goal.invariant-numbers
invariant-numbers l = AreLinks (declarations_of l.scope.declared) l.chains l.number
