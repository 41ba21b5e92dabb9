use Rattle.std.proofs.Common.{map, take, drop}
use Rattle.til_resolve.specs.PlainProject.{plain_port}
use Rattle.vhdl_writer.specs.Clashing.{AreSplit}
use Rattle.vhdl_writer.proofs.splitting.split_ports.Given as goal

-- the ports so far have no clash
abbrev pub invariant-ports : goal.invariant-ports
invariant-ports l = AreSplit (map plain_port l.ports) (map plain_port (take l.port-index l.ports)) (map plain_port (drop l.port-index l.ports)) l.split
