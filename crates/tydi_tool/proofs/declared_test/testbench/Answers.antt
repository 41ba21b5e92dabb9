use Rattle.std.proofs.Common.{Ok}
use Rattle.til_resolve.specs.PlainProject.{PlainProject, plain_project}
use Rattle.tydi_io.specs.Faults.{Rose}
use Rattle.tydi_tool.specs.Projects.{ReadsProject}
use Rattle.tydi_tool.specs.Tests.{TellsTest}
use Rattle.tydi_tool.specs.Words.{project_file}
use Rattle.tydi_tool.proofs.AskLemmas.{DecidedBy-last}
use Rattle.tydi_tool.proofs.TestLemmas.{asked-short}
use Rattle.tydi_tool.proofs.declared_test.testbench.Goals as goal

pub testbench_in-requires-clause-short : goal.testbench_in-requires-clause-short
testbench_in-requires-clause-short g c =
    asked-short (g.S.Store.files c.args.store.now) c.args.project.now (g.S.Store.started c.args.store.now) (g.S.Store.started c.ask_project.new.store)
    (Rose (g.S.Store.faults c.args.store.now) (g.S.Store.faults c.ask_project.new.store)) (Ok c.in-Ok.read) c.in-Ok.ensures.asked

pub returns-in-Ok : goal.returns-in-Ok
returns-in-Ok g c = record {
  decided = DecidedBy-last (project_file c.args.project.now) PlainProject (ReadsProject c.args.project.now) (λ read. TellsTest read c.args.test.now)
      (g.S.Store.files c.args.store.now) (g.S.Store.started c.args.store.now) (g.S.Store.started c.ask_project.new.store)
      (Rose (g.S.Store.faults c.args.store.now) (g.S.Store.faults c.ask_project.new.store)) _ (plain_project c.in-Ok.read) c.testbench_in.result c.in-Ok.ensures.asked c.testbench_in.ensures;
}
