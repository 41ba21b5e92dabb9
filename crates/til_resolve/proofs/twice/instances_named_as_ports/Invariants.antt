use Rattle.std.proofs.Common.{Contains, take}
use Rattle.std.specs.List.{filter_map}
use Rattle.til_resolve.specs.Declarations.{declaration, ports_of}
use Rattle.til_resolve.specs.Earliest.{IsEarliest}
use Rattle.til_resolve.specs.Names.{instances_named_as_ports, instance_at}
use Rattle.til_resolve.specs.Scope.{declarations_of}
use Rattle.til_resolve.proofs.twice.instances_named_as_ports.Given as goal

abbrev pub invariant-stmts : goal.invariant-stmts
invariant-stmts l = IsEarliest (Contains (instances_named_as_ports (ports_of (declarations_of l.scope.declared) (declaration (declarations_of l.scope.declared) l.streamlet))
    (filter_map instance_at (take l.stmt-index l.stmts)))) l.found
