use Rattle.std.proofs.Common.{◌∙◌, ◌<◌, Option, Some, ap, sym, subst}
use Rattle.std.proofs.Math.ListN.{set}
use Rattle.std.proofs.lemmas.Option.{slice_get-get_or}
use Rattle.physical_stream.specs.Cycles.{cycle_in}
use Rattle.cycle_trace.specs.RowSink.{with_row}
use Rattle.cycle_trace.specs.Surveying.{RowsSay, offends_in}
use Rattle.cycle_trace.specs.declared.surveying.outcome.FoundOffence.{FoundOffence}
use Rattle.cycle_trace.proofs.SurveyorLemmas.{stream_within, row_fits, few_seen, RowsSay-broken, RowsSay-unbroken}
use Rattle.cycle_trace.proofs.surveying.run.SurveyRun.judge_first.Goals as goal

pub index_mut-requires : goal.index_mut-requires
index_mut-requires c =
    let run = c.args.self.now in
    let t = c.requires.stands.0 in
    let stands = c.requires.stands.1.0 in
    let says = subst (λ (found : Option FoundOffence). RowsSay (offends_in t) t run.checkers.items found) c.requires.none stands.says in
    subst (λ n. run.stream < n) (sym run.checkers.ok.0) (stream_within t run.cycle run.stream stands.next (cycle_in c.args.row) c.requires.stands.1.1 run.checkers.items says)

pub step-requires-clause-fits : goal.step-requires-clause-fits
step-requires-clause-fits c =
    let run = c.args.self.now in
    let t = c.requires.stands.0 in
    let stands = c.requires.stands.1.0 in
    let says = subst (λ (found : Option FoundOffence). RowsSay (offends_in t) t run.checkers.items found) c.requires.none stands.says in
    let within = stream_within t run.cycle run.stream stands.next (cycle_in c.args.row) c.requires.stands.1.1 run.checkers.items says in
    let there = slice_get-get_or run.checkers.items run.stream c.index_mut.result.now within ∙ ap Some (sym c.index_mut.ensures.value) in
    row_fits t run.cycle run.stream stands.next (cycle_in c.args.row) c.requires.stands.1.1 run.checkers.items says c.index_mut.result.now there

pub step-requires-clause-room : goal.step-requires-clause-room
step-requires-clause-room c =
    let run = c.args.self.now in
    let t = c.requires.stands.0 in
    let stands = c.requires.stands.1.0 in
    let says = subst (λ (found : Option FoundOffence). RowsSay (offends_in t) t run.checkers.items found) c.requires.none stands.says in
    let within = stream_within t run.cycle run.stream stands.next (cycle_in c.args.row) c.requires.stands.1.1 run.checkers.items says in
    let there = slice_get-get_or run.checkers.items run.stream c.index_mut.result.now within ∙ ap Some (sym c.index_mut.ensures.value) in
    few_seen t run.cycle run.stream stands.next (cycle_in c.args.row) c.requires.stands.1.1 run.checkers.items says c.index_mut.result.now there stands.few

pub returns-in-Some-clause-says : goal.returns-in-Some-clause-says
returns-in-Some-clause-says c t stands can =
    let run = c.args.self.now in
    let says = subst (λ (found : Option FoundOffence). RowsSay (offends_in t) t run.checkers.items found) c.requires.none stands.says in
    let within = stream_within t run.cycle run.stream stands.next (cycle_in c.args.row) can run.checkers.items says in
    let there = slice_get-get_or run.checkers.items run.stream c.index_mut.result.now within ∙ ap Some (sym c.index_mut.ensures.value) in
    RowsSay-broken t run.cycle run.stream stands.next (cycle_in c.args.row) can run.checkers.items says c.index_mut.result.now there c.step.new.self run.checkers.items c.in-Some.rule c.in-Some.ensures.steps

pub returns-in_default-clause-says : goal.returns-in_default-clause-says
returns-in_default-clause-says c t stands can =
    let run = c.args.self.now in
    let says = subst (λ (found : Option FoundOffence). RowsSay (offends_in t) t run.checkers.items found) c.requires.none stands.says in
    let within = stream_within t run.cycle run.stream stands.next (cycle_in c.args.row) can run.checkers.items says in
    let there = slice_get-get_or run.checkers.items run.stream c.index_mut.result.now within ∙ ap Some (sym c.index_mut.ensures.value) in
    subst (λ (found : Option FoundOffence). RowsSay (offends_in (with_row t (cycle_in c.args.row))) (with_row t (cycle_in c.args.row)) (set run.checkers.items run.stream c.step.new.self) found) (sym c.requires.none)
    (RowsSay-unbroken t run.cycle run.stream stands.next (cycle_in c.args.row) can run.checkers.items says c.index_mut.result.now there c.step.new.self c.step.ensures.params c.in_default.ensures.steps)
