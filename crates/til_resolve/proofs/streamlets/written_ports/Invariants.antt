use Rattle.std.proofs.Common.{take}
use Rattle.til_resolve.specs.Declarations.{declaration}
use Rattle.til_resolve.specs.Making.{written_in}
use Rattle.til_resolve.specs.Project.{IsPortOf, Pairwise}
use Rattle.til_resolve.specs.Scope.{declarations_of}
use Rattle.til_resolve.proofs.streamlets.written_ports.Given as goal

abbrev pub invariant-ports : goal.invariant-ports
invariant-ports l =
    Pairwise (IsPortOf (declarations_of l.scope.declared)) (written_in (declaration (declarations_of l.scope.declared) l.number).space (take l.port-index l.port-items)) l.ports
