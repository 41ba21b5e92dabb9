use Rattle.std.proofs.Common.{List, map, sym, subst}
use Rattle.std.specs.List.{All}
use Rattle.til_resolve.specs.PlainProject.{PlainStreamlet, plain_project, plain_streamlet}
use Rattle.til_resolve.specs.declared.project.Streamlet.{Streamlet}
use Rattle.vhdl_writer.specs.Clashing.{HavePortTypes}
use Rattle.vhdl_writer.proofs.SplitLemmas.{types-of}
use Rattle.vhdl_writer.proofs.archs.design_text.Goals as goal

pub components_of-requires : goal.components_of-requires
components_of-requires c =
    subst (λ (streamlets : List Streamlet). All (λ (one : PlainStreamlet). HavePortTypes one.ports) (map plain_streamlet streamlets)) (sym c.as_slice-streamlets.ensures)
    (types-of (plain_project c.args.project.now) c.requires.types)
