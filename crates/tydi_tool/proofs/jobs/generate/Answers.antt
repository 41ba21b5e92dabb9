use Rattle.std.proofs.Common.{◌≡◌, IfSome}
use Rattle.til_resolve.specs.PlainProject.{PlainProject, plain_project}
use Rattle.type_split.specs.Streams.{PlainSplit}
use Rattle.tydi_io.specs.Faults.{Rose}
use Rattle.tydi_tool.specs.Ask.{Ends, goes_on}
use Rattle.tydi_tool.specs.Drives.{carried}
use Rattle.tydi_tool.specs.Files.{IsPulled}
use Rattle.tydi_tool.specs.Jobs.{TellsJob}
use Rattle.tydi_tool.specs.Ports.{split_at}
use Rattle.tydi_tool.specs.Projects.{ReadsProject}
use Rattle.tydi_tool.specs.Words.{project_file}
use Rattle.tydi_tool.proofs.AskLemmas.{DecidedBy-asked, DecidedBy-then}
use Rattle.tydi_tool.proofs.JobLemmas.{DecidedBy-told_twice}
use Rattle.tydi_tool.proofs.jobs.generate.Goals as goal

pub returns-in-Ok : goal.returns-in-Ok
returns-in-Ok g c =
    let files = g.S.Store.files c.args.store.now in
    let started = g.S.Store.started c.ask_project.new.store in
    let rose = Rose (g.S.Store.faults c.args.store.now) (g.S.Store.faults c.ask_project.new.store) in
    let project = plain_project c.in-Ok.read in
    record {
      decided = DecidedBy-then (project_file c.args.project.now) PlainProject (ReadsProject c.args.project.now)
          (λ read. goes_on (split_at read c.args.port.now) (λ split. goes_on (carried split) (λ done. Ends (TellsJob split c.args.seed c.args.count)))) files (g.S.Store.started c.args.store.now) started rose
          (IfSome files (λ known. started ≡ g.S.Store.started c.args.store.now)) project c.generate_named.result c.in-Ok.ensures.asked
          (DecidedBy-told_twice {V = PlainSplit} {W = Unit {0}} files started rose (IsPulled files (project_file c.args.project.now) started) (split_at project c.args.port.now) carried
          (λ split. TellsJob split c.args.seed c.args.count) c.generate_named.result c.in-Ok.ensures.asked.1.1.1 c.generate_named.ensures);
    }

pub returns-in-Err : goal.returns-in-Err
returns-in-Err g c = record {
  decided = DecidedBy-asked (project_file c.args.project.now) PlainProject (ReadsProject c.args.project.now)
      (λ read. goes_on (split_at read c.args.port.now) (λ split. goes_on (carried split) (λ done. Ends (TellsJob split c.args.seed c.args.count))))
      (g.S.Store.files c.args.store.now) (g.S.Store.started c.args.store.now) (g.S.Store.started c.ask_project.new.store)
      (Rose (g.S.Store.faults c.args.store.now) (g.S.Store.faults c.ask_project.new.store)) c.in-Err.reply c.in-Err.ensures.asked;
}
