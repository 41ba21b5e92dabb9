use Rattle.std.proofs.Common.{take}
use Rattle.std.specs.BTreeMap.{get}
use Rattle.til_resolve.specs.Ordered.{by_key}
use Rattle.til_resolve.specs.Scope.{FindsFirst, placed}
use Rattle.til_resolve.proofs.firsts.first_of_each.Given as goal

-- the declarations so far are found
abbrev pub invariant-declared : goal.invariant-declared
invariant-declared l = FindsFirst (get by_key l.firsts) (placed (take l.number l.declared))
