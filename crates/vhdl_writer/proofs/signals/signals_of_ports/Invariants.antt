use Rattle.std.proofs.Common.{◌≡◌, take}
use Rattle.std.specs.List.{flat_map}
use Rattle.vhdl_writer.specs.Components.{signals_of_port}
use Rattle.vhdl_writer.proofs.signals.signals_of_ports.Given as goal

-- the signals of the ports so far
abbrev pub invariant-ports : goal.invariant-ports
invariant-ports l = l.signals ≡ flat_map signals_of_port (take l.port-index l.ports)
