use Rattle.std.proofs.Common.{sym, subst}
use Rattle.logical_types.specs.Tree.{plain_of_stream}
use Rattle.logical_types.specs.declared.ltype.StreamType.{StreamType}
use Rattle.til_resolve.specs.PlainProject.{plain_port, plain_project}
use Rattle.til_resolve.specs.PortTypes.{IsPortType}
use Rattle.tydi_tool.proofs.TestLemmas.{port-type}
use Rattle.tydi_tool.proofs.declared_test.bench_of_test.Goals as goal

pub split_apart-requires : goal.split_apart-requires
split_apart-requires c =
    subst (λ (ltype : StreamType). IsPortType (plain_of_stream ltype)) (sym c.deref.ensures)
    (port-type (plain_project c.args.project.now) c.args.test.now (plain_port c.port_of_test-port.result.now) c.requires.sound c.port_of_test-port.ensures)
