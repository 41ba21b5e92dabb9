use Rattle.til_resolve.specs.PlainProject.{PlainStreamlet, plain_port, plain_streamlet}
use Rattle.std.proofs.Common.{List, map, sym, subst}
use Rattle.til_resolve.specs.declared.project.Port.{Port}
use Rattle.vhdl_writer.specs.Clashing.{HavePortTypes}
use Rattle.vhdl_writer.proofs.SplitLemmas.{at-item}
use Rattle.vhdl_writer.proofs.splitting.components_of.Goals as goal

pub component_of-requires : goal.component_of-requires
component_of-requires c =
    subst (λ (ports : List Port). HavePortTypes (map plain_port ports)) (sym c.as_slice.ensures)
    (at-item (λ (one : PlainStreamlet). HavePortTypes one.ports) plain_streamlet c.args.streamlets.now c.streamlets.streamlet-index c.streamlet-item.result c.requires c.streamlets-test.true c.streamlet-item.is)
