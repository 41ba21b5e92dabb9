use Rattle.std.specs.BTreeSet.{contains}
use Rattle.til_resolve.specs.Ports.{FindsPorts}
use Rattle.til_resolve.specs.Ordered.{by_key}
use Rattle.til_resolve.specs.Scope.{declarations_of}
use Rattle.til_resolve.proofs.ports.all_ports.Given as goal

-- the ports of the declarations so far are found
abbrev pub invariant-numbers : goal.invariant-numbers
invariant-numbers l = FindsPorts (contains by_key l.ports) (declarations_of l.scope.declared) l.number
