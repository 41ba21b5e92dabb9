use Rattle.std.proofs.Common.{List, map, sym, subst}
use Rattle.std.specs.List.{All}
use Rattle.til_resolve.specs.PlainProject.{PlainStreamlet, plain_port, plain_project, plain_streamlet}
use Rattle.til_resolve.specs.declared.project.Port.{Port}
use Rattle.til_resolve.specs.declared.project.Streamlet.{Streamlet}
use Rattle.vhdl_writer.specs.Clashing.{HavePortTypes}
use Rattle.vhdl_writer.proofs.SplitLemmas.{at-item, types-of}
use Rattle.vhdl_writer.proofs.clash.first_clash.Goals as goal

pub clash_in-requires : goal.clash_in-requires
clash_in-requires c =
    subst (λ (ports : List Port). HavePortTypes (map plain_port ports)) (sym c.as_slice.ensures)
    (at-item (λ (one : PlainStreamlet). HavePortTypes one.ports) plain_streamlet c.as_slice-streamlet-items.result.now c.streamlets.streamlet-index c.streamlet-item.result
    (subst (λ (streamlets : List Streamlet). All (λ (one : PlainStreamlet). HavePortTypes one.ports) (map plain_streamlet streamlets)) (sym c.as_slice-streamlet-items.ensures)
    (types-of (plain_project c.args.project.now) c.requires)) c.streamlets-test.true c.streamlet-item.is)
