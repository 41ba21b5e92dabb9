use Rattle.til_resolve.specs.PlainProject.{PlainPort, plain_port}
use Rattle.til_resolve.specs.PortTypes.{IsPortType}
use Rattle.vhdl_writer.proofs.SplitLemmas.{at-item}
use Rattle.vhdl_writer.proofs.splitting.split_ports.Goals as goal

pub split_port-requires : goal.split_port-requires
split_port-requires c = at-item (λ (port : PlainPort). IsPortType port.ltype) plain_port c.args.ports.now c.ports.port-index c.port-item.result c.requires c.ports-test.true c.port-item.is
