use Rattle.std.proofs.Common.{take}
use Rattle.til_resolve.specs.Declarations.{declaration}
use Rattle.til_resolve.specs.Faults.{port_types}
use Rattle.til_resolve.specs.Scope.{declarations_of}
use Rattle.til_resolve.specs.Written.{AddsWritten}
use Rattle.til_resolve.proofs.written.add_ports.Given as goal

abbrev pub invariant-ports : goal.invariant-ports
invariant-ports l = AddsWritten (declarations_of l.scope.declared) l.initial.written l.written
    (port_types (declarations_of l.scope.declared) (declaration (declarations_of l.scope.declared) l.number).space (take l.port-index l.ports))
