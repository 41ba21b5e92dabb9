use Rattle.std.proofs.Common.{◌≡◌, IfSome}
use Rattle.split_text.specs.Text.{split_text}
use Rattle.til_resolve.specs.PlainProject.{PlainProject, plain_project}
use Rattle.tydi_io.specs.Faults.{Rose}
use Rattle.tydi_tool.specs.Ask.{Ends, goes_on}
use Rattle.tydi_tool.specs.Files.{IsPulled}
use Rattle.tydi_tool.specs.Outcome.{output_answer}
use Rattle.tydi_tool.specs.Ports.{split_at}
use Rattle.tydi_tool.specs.Projects.{ReadsProject}
use Rattle.tydi_tool.specs.Words.{project_file}
use Rattle.tydi_tool.proofs.AskLemmas.{DecidedBy-asked, DecidedBy-then, DecidedBy-told}
use Rattle.tydi_tool.proofs.commands.split.Goals as goal

pub returns-in-Ok : goal.returns-in-Ok
returns-in-Ok g c =
    let files = g.S.Store.files c.args.store.now in
    let started = g.S.Store.started c.ask_project.new.store in
    let rose = Rose (g.S.Store.faults c.args.store.now) (g.S.Store.faults c.ask_project.new.store) in
    let project = plain_project c.in-Ok.read in
    record {
      decided = DecidedBy-then (project_file c.args.project.now) PlainProject (ReadsProject c.args.project.now)
          (λ read. goes_on (split_at read c.args.port.now) (λ split. Ends (λ a. a ≡ output_answer (split_text split)))) files (g.S.Store.started c.args.store.now) started rose
          (IfSome files (λ known. started ≡ g.S.Store.started c.args.store.now)) project c.split_in.result c.in-Ok.ensures.asked
          (DecidedBy-told files started rose (IsPulled files (project_file c.args.project.now) started) (split_at project c.args.port.now) (λ split a. a ≡ output_answer (split_text split))
          c.split_in.result c.in-Ok.ensures.asked.1.1.1 c.split_in.ensures);
    }

pub returns-in-Err : goal.returns-in-Err
returns-in-Err g c = record {
  decided = DecidedBy-asked (project_file c.args.project.now) PlainProject (ReadsProject c.args.project.now)
      (λ read. goes_on (split_at read c.args.port.now) (λ split. Ends (λ a. a ≡ output_answer (split_text split)))) (g.S.Store.files c.args.store.now) (g.S.Store.started c.args.store.now)
      (g.S.Store.started c.ask_project.new.store) (Rose (g.S.Store.faults c.args.store.now) (g.S.Store.faults c.ask_project.new.store)) c.in-Err.reply c.in-Err.ensures.asked;
}
