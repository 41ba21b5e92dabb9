use Rattle.std.proofs.Common.{◌≡◌}
use Rattle.til_parser.specs.Canonical.{canonical}
use Rattle.tydi_tool.specs.Outcome.{output_answer}
use Rattle.tydi_tool.specs.Trees.{ReadsTree}
use Rattle.tydi_tool.specs.Words.{project_file}
use Rattle.tydi_tool.proofs.AskLemmas.{DecidedBy-last}
use Rattle.tydi_tool.proofs.commands.read.Goals as goal

pub returns-in-Ok : goal.returns-in-Ok
returns-in-Ok g c = record {
  decided = DecidedBy-last (project_file c.args.project.now) _ (ReadsTree c.args.project.now) (λ ast a. a ≡ output_answer (canonical ast)) _ (g.S.Store.started c.args.store.now) _ _ _ c.in-Ok.ast c.canonical_text.result
      c.in-Ok.ensures.asked c.canonical_text.ensures;
}
