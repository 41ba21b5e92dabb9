use Rattle.std.proofs.Common.{Some, Err, Option, refl, sym, subst}
use Rattle.cycle_trace.specs.declared.surveying.counts.SurveyFault.{SurveyFault}
use Rattle.cycle_trace.specs.declared.surveying.outcome.FoundOffence.{FoundOffence}
use Rattle.cycle_trace.specs.Survey.{Answers}
use Rattle.cycle_trace.specs.Surveying.{RowsSay, offence_of, offends_in}
use Rattle.cycle_trace.specs.Trace.{streams_of}
use Rattle.cycle_trace.proofs.surveying.outcome.outcome_of.Goals as goal

pub returns-in-Some : goal.returns-in-Some
returns-in-Some c t says =
    let here = subst (λ (found : Option FoundOffence). RowsSay (offends_in t) t c.args.checkers.now found) c.in-Some.is says in
    subst (λ (fault : SurveyFault). Answers (offends_in t) (streams_of t) (Err fault)) (sym c.fault.ensures) (record { first = Some (offence_of c.in-Some.found); is_first = here; says = refl })

pub returns-in-None : goal.returns-in-None
returns-in-None c t says =
    let here = subst (λ (found : Option FoundOffence). RowsSay (offends_in t) t c.args.checkers.now found) c.in-None.is says in
    c.count.ensures t here.0 here.1
