use Rattle.std.proofs.Common.{take}
use Rattle.til_resolve.specs.Names.{paths_in_ports}
use Rattle.til_resolve.specs.PathsWritten.{AddsPaths}
use Rattle.til_resolve.proofs.paths.add_ports.Given as goal

abbrev pub invariant-ports : goal.invariant-ports
invariant-ports l = AddsPaths l.initial.paths l.paths (paths_in_ports (take l.port-index l.ports))
