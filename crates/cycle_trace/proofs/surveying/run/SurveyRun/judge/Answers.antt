use Rattle.std.proofs.Common.{Option, sym, subst}
use Rattle.physical_stream.specs.Cycles.{cycle_in}
use Rattle.cycle_trace.specs.RowSink.{with_row}
use Rattle.cycle_trace.specs.Surveying.{RowsSay, offends_in}
use Rattle.cycle_trace.specs.declared.surveying.outcome.FoundOffence.{FoundOffence}
use Rattle.cycle_trace.proofs.SurveyorLemmas.{RowsSay-found}
use Rattle.cycle_trace.proofs.surveying.run.SurveyRun.judge.Goals as goal

pub returns-in-Some-clause-says : goal.returns-in-Some-clause-says
returns-in-Some-clause-says c t stands can =
    let run = c.args.self.now in
    let here = subst (λ (found : Option FoundOffence). RowsSay (offends_in t) t run.checkers.items found) c.in-Some.is stands.says in
    subst (λ (found : Option FoundOffence). RowsSay (offends_in (with_row t (cycle_in c.args.row))) (with_row t (cycle_in c.args.row)) run.checkers.items found) (sym c.in-Some.is)
    (RowsSay-found t run.cycle run.stream stands.next (cycle_in c.args.row) can run.checkers.items run.checkers.items c.in-Some.field-0 here)
