use Rattle.std.proofs.Common.{[], take}
use Rattle.std.specs.List.{flat_map}
use Rattle.til_resolve.specs.Faults.{types_in}
use Rattle.til_resolve.specs.Scope.{declarations_of}
use Rattle.til_resolve.specs.Written.{AddsWritten}
use Rattle.til_resolve.proofs.written.written_types.Given as goal

abbrev pub invariant-numbers : goal.invariant-numbers
invariant-numbers l = AddsWritten (declarations_of l.scope.declared) [] l.written (flat_map (types_in (declarations_of l.scope.declared)) (take l.number (declarations_of l.scope.declared)))
