use Rattle.link_check.specs.declared.end_heads.EndHeads.{EndHeads}
use Rattle.tydi_tool.specs.Commands.{arrival_ask}
use Rattle.tydi_tool.specs.Designs.{ReadsDesign, design_words}
use Rattle.tydi_tool.specs.Words.{project_file}
use Rattle.tydi_tool.proofs.AskLemmas.{DecidedBy-rest}
use Rattle.tydi_tool.proofs.DesignLemmas.{design-rises}
use Rattle.tydi_tool.proofs.carry.carry.Goals as goal

pub carry_between-requires-clause-rise : goal.carry_between-requires-clause-rise
carry_between-requires-clause-rise g c =
    design-rises c.compatible_ports_carry.ensures.ports (design_words c.args.words) c.in-Ok.ensures.asked.0 c.in-Ok.heads c.in-Ok.ensures.asked.1.1.0

pub returns-in-Ok : goal.returns-in-Ok
returns-in-Ok g c = record {
  decided = DecidedBy-rest (project_file c.args.words.project.now) EndHeads (ReadsDesign (design_words c.args.words)) (arrival_ask c.args.trace.now) _ _
      (g.S.Store.started c.args.store.now) _ _ _ _ _ _ c.in-Ok.heads c.carry_between.result
      c.in-Ok.ensures.files c.in-Ok.ensures.later c.in-Ok.ensures.asked c.carry_between.ensures.decided;
}
