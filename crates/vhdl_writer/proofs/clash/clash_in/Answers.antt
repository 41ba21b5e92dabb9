use Rattle.til_resolve.specs.PlainProject.{PlainPort, plain_port}
use Rattle.til_resolve.specs.PortTypes.{IsPortType}
use Rattle.vhdl_writer.proofs.SplitLemmas.{at-item}
use Rattle.vhdl_writer.proofs.clash.clash_in.Goals as goal

pub clash_at-requires : goal.clash_at-requires
clash_at-requires c = at-item (λ (port : PlainPort). IsPortType port.ltype) plain_port c.args.ports.now c.ports.port-index c.port-item.result c.requires c.ports-test.true c.port-item.is
