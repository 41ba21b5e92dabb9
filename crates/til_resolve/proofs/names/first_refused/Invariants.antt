use Rattle.std.proofs.Common.{Contains}
use Rattle.til_resolve.specs.Earliest.{IsEarliest}
use Rattle.til_resolve.specs.Scope.{declarations_of}
use Rattle.til_resolve.specs.Sought.{all_refused}
use Rattle.til_resolve.proofs.names.first_refused.Given as goal

abbrev pub invariant-numbers : goal.invariant-numbers
invariant-numbers l = IsEarliest (Contains (all_refused l.sought (declarations_of l.scope.declared) l.number)) l.found
