use Rattle.std.specs.BTreeMap.{get}
use Rattle.std.specs.Ordering.{nat_cmp}
use Rattle.til_resolve.specs.Making.{FindsFirstImpl}
use Rattle.til_resolve.specs.Scope.{declarations_of}
use Rattle.til_resolve.proofs.implementing.first_impls.Given as goal

abbrev pub invariant-numbers : goal.invariant-numbers
invariant-numbers l = FindsFirstImpl (get nat_cmp l.impls) (declarations_of l.scope.declared) l.number
