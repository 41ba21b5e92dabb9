use Rattle.std.proofs.Common.{Contains}
use Rattle.til_resolve.specs.Declarations.{before}
use Rattle.til_resolve.specs.Earliest.{IsEarliest}
use Rattle.til_resolve.specs.Names.{implemented_again}
use Rattle.til_resolve.specs.Scope.{declarations_of}
use Rattle.til_resolve.proofs.twice.first_implemented_again.Given as goal

-- the first among the declarations so far
abbrev pub invariant-numbers : goal.invariant-numbers
invariant-numbers l = IsEarliest (Contains (before (implemented_again (declarations_of l.scope.declared)) l.number)) l.found
