use Rattle.tydi_io.specs.Faults.{Rose}
use Rattle.tydi_tool.specs.Words.{project_file}
use Rattle.tydi_tool.proofs.ProjectLemmas.{IsAsked-sound}
use Rattle.tydi_tool.proofs.commands.ask_project.Goals as goal

pub returns-clause-sound : goal.returns-clause-sound
returns-clause-sound g c =
    IsAsked-sound (g.S.Store.files c.args.store.now) (project_file c.args.project.now) c.args.project.now (g.S.Store.started c.args.store.now) (g.S.Store.started c.ask_text.new.store)
    (Rose (g.S.Store.faults c.args.store.now) (g.S.Store.faults c.ask_text.new.store)) c.ask_text.result c.ask_text.ensures.asked
