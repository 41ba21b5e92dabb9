use Rattle.std.proofs.Common.{◌≡◌, ◌++◌, map, take}
use Rattle.vhdl_writer.specs.Architecture.{entity_port}
use Rattle.vhdl_writer.proofs.entity.add_ports.Given as goal

-- the ports so far
abbrev pub invariant-signals : goal.invariant-signals
invariant-signals l = l.ports ≡ l.initial.ports ++ map entity_port (take l.signal-index l.signals)
