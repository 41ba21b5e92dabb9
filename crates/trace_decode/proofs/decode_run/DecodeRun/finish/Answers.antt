use Rattle.std.proofs.Common.{◌∙◌, sym, subst}
use Rattle.std.specs.Prelude.{IfSome, option_map}
use Rattle.type_split.specs.Streams.{plain_split}
use Rattle.cycle_trace.specs.Survey.{Answers, OffendsByEither}
use Rattle.cycle_trace.specs.Surveying.{offence_of, offends_in}
use Rattle.cycle_trace.specs.Trace.{streams_of}
use Rattle.cycle_trace.proofs.FirstOfTwo.{answers-with}
use Rattle.trace_decode.specs.Outcome.{IsOutcome, outcome_of_fault}
use Rattle.trace_decode.specs.Tags.{OffendsByTag}
use Rattle.port_drive.specs.Laws.{done_on}
use Rattle.trace_decode.specs.declared.fault.DecodeFault.{DecodeFault}
use Rattle.trace_decode.proofs.OutcomeLemmas.{are_finished, decoded_from, outcome_from, tags_first, whole_from}
use Rattle.trace_decode.proofs.decode_run.DecodeRun.finish.Goals as goal

pub joined-requires-clause-finished : goal.joined-requires-clause-finished
joined-requires-clause-finished c =
    let split = plain_split c.args.split.now in
    let t = c.requires.stands.0 in
    let runs = c.requires.stands.1 in
    let said = answers-with (offends_in t) (OffendsByTag split t) (streams_of t) c.finish.result (option_map offence_of c.args.self.tag) (c.finish.ensures t runs.surveyed) (tags_first split t c.args.self runs) in
    let answers = subst (Answers (OffendsByEither (offends_in t) (OffendsByTag split t)) (streams_of t)) (sym c.with_offence.ensures ∙ c.in-Ok.is) said in
    (done_on (streams_of t), are_finished split c.requires.can.port t c.args.self runs (whole_from split t runs.heads c.in-Ok.field-0 answers))

pub returns-in-Ok : goal.returns-in-Ok
returns-in-Ok c t runs =
    let split = plain_split c.args.split.now in
    let said = answers-with (offends_in t) (OffendsByTag split t) (streams_of t) c.finish.result (option_map offence_of c.args.self.tag) (c.finish.ensures t runs.surveyed) (tags_first split t c.args.self runs) in
    let answers = subst (Answers (OffendsByEither (offends_in t) (OffendsByTag split t)) (streams_of t)) (sym c.with_offence.ensures ∙ c.in-Ok.is) said in
    let whole = whole_from split t runs.heads c.in-Ok.field-0 answers in
    decoded_from split c.requires.can.port t c.args.self runs whole c.joined.result (c.joined.ensures (done_on (streams_of t)) (are_finished split c.requires.can.port t c.args.self runs whole))

pub returns : goal.returns
returns c t runs =
    let split = plain_split c.args.split.now in
    let said = answers-with (offends_in t) (OffendsByTag split t) (streams_of t) c.finish.result (option_map offence_of c.args.self.tag) (c.finish.ensures t runs.surveyed) (tags_first split t c.args.self runs) in
    let answers = subst (Answers (OffendsByEither (offends_in t) (OffendsByTag split t)) (streams_of t)) (sym c.with_offence.ensures ∙ c.in-Err.is) said in
    subst (λ (f : DecodeFault). IfSome (outcome_of_fault f) (IsOutcome split t)) (sym c.fault_of_survey.ensures) (outcome_from split t runs.heads c.in-Err.fault answers)
