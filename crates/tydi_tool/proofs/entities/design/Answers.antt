use Rattle.til_resolve.specs.PlainProject.{PlainProject, plain_project}
use Rattle.tydi_io.specs.Faults.{Rose}
use Rattle.tydi_tool.specs.Ask.{Ends}
use Rattle.tydi_tool.specs.Entities.{TellsDesign}
use Rattle.tydi_tool.specs.Projects.{ReadsProject}
use Rattle.tydi_tool.specs.Words.{project_file}
use Rattle.tydi_tool.proofs.AskLemmas.{DecidedBy-asked, DecidedBy-last}
use Rattle.tydi_tool.proofs.entities.design.Goals as goal

pub returns-in-Ok : goal.returns-in-Ok
returns-in-Ok g c = record {
  decided = DecidedBy-last (project_file c.args.project.now) PlainProject (ReadsProject c.args.project.now) (TellsDesign c.args.language c.args.project.now)
      (g.S.Store.files c.args.store.now) (g.S.Store.started c.args.store.now) (g.S.Store.started c.ask_project.new.store)
      (Rose (g.S.Store.faults c.args.store.now) (g.S.Store.faults c.ask_project.new.store)) _ (plain_project c.in-Ok.read) c.designed.result c.in-Ok.ensures.asked c.designed.ensures;
}

pub returns-in-Err : goal.returns-in-Err
returns-in-Err g c = record {
  decided = DecidedBy-asked (project_file c.args.project.now) PlainProject (ReadsProject c.args.project.now) (λ read. Ends (TellsDesign c.args.language c.args.project.now read))
      (g.S.Store.files c.args.store.now) (g.S.Store.started c.args.store.now) (g.S.Store.started c.ask_project.new.store)
      (Rose (g.S.Store.faults c.args.store.now) (g.S.Store.faults c.ask_project.new.store)) c.in-Err.reply c.in-Err.ensures.asked;
}
