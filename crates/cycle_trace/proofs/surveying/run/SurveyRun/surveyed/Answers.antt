use Rattle.std.proofs.Common.{List, sym, subst}
use Rattle.complexity_rules.specs.declared.checker.Checker.{Checker}
use Rattle.cycle_trace.specs.Surveying.{RowsSay, offends_in}
use Rattle.cycle_trace.proofs.surveying.run.SurveyRun.surveyed.Goals as goal

pub returns : goal.returns
returns c t stands = record {
  cycles = stands.cycles;
  heads = stands.heads;
  found = c.outcome_of-found.ensures t (subst (λ (checkers : List Checker). RowsSay (offends_in t) t checkers c.args.self.found) (sym c.as_slice.ensures.value) stands.says);
}
