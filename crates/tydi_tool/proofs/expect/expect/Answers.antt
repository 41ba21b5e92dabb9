use Rattle.til_resolve.specs.PlainProject.{PlainProject, plain_project}
use Rattle.tydi_io.specs.Faults.{Rose}
use Rattle.tydi_tool.specs.Ask.{goes_on}
use Rattle.tydi_tool.specs.Commands.{expected_ask}
use Rattle.tydi_tool.specs.Drives.{carried}
use Rattle.tydi_tool.specs.Ports.{split_at}
use Rattle.tydi_tool.specs.Projects.{ReadsProject}
use Rattle.tydi_tool.specs.Words.{project_file}
use Rattle.tydi_tool.proofs.AskLemmas.{DecidedBy-asked, DecidedBy-rest}
use Rattle.tydi_tool.proofs.expect.expect.Goals as goal

pub returns-in-Ok : goal.returns-in-Ok
returns-in-Ok g c = record {
  decided = DecidedBy-rest (project_file c.args.project.now) PlainProject (ReadsProject c.args.project.now)
      (λ read. goes_on (split_at read c.args.port.now) (λ split. goes_on (carried split) (λ done. expected_ask c.args.value.now split))) _ _
      (g.S.Store.started c.args.store.now) _ _ _ _ _ _ (plain_project c.in-Ok.read) c.expect_named.result
      c.in-Ok.ensures.files c.in-Ok.ensures.later c.in-Ok.ensures.asked c.expect_named.ensures.decided;
}

pub returns-in-Err : goal.returns-in-Err
returns-in-Err g c = record {
  decided = DecidedBy-asked (project_file c.args.project.now) PlainProject (ReadsProject c.args.project.now)
      (λ read. goes_on (split_at read c.args.port.now) (λ split. goes_on (carried split) (λ done. expected_ask c.args.value.now split)))
      (g.S.Store.files c.args.store.now) (g.S.Store.started c.args.store.now) (g.S.Store.started c.ask_project.new.store)
      (Rose (g.S.Store.faults c.args.store.now) (g.S.Store.faults c.ask_project.new.store)) c.in-Err.reply c.in-Err.ensures.asked;
}
