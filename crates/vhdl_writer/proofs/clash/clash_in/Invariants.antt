use Rattle.std.proofs.Common.{◌≡◌, map, drop}
use Rattle.til_resolve.specs.PlainProject.{plain_port}
use Rattle.vhdl_writer.specs.PortClashes.{clash_in}
use Rattle.vhdl_writer.proofs.clash.clash_in.Given as goal

-- the ports so far have no clash
abbrev pub invariant-ports : goal.invariant-ports
invariant-ports l = clash_in l.streamlet (map plain_port (drop l.port-index l.ports)) ≡ clash_in l.streamlet (map plain_port l.ports)
