use Rattle.std.proofs.Common.{Contains}
use Rattle.til_resolve.specs.Declarations.{before}
use Rattle.til_resolve.specs.Earliest.{IsEarliest}
use Rattle.til_resolve.specs.Names.{twice_at}
use Rattle.til_resolve.specs.Scope.{declarations_of}
use Rattle.til_resolve.proofs.twice.first_twice.Given as goal

abbrev pub invariant-numbers : goal.invariant-numbers
invariant-numbers l = IsEarliest (Contains (before (twice_at (declarations_of l.scope.declared)) l.number)) l.found
