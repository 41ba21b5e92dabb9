use Rattle.std.proofs.Common.{◌∙◌, Some, refl, ap, subst}
use Rattle.physical_stream.specs.declared.head.Header.{Header}
use Rattle.cycle_trace.specs.RowSink.{begun_by}
use Rattle.cycle_trace.specs.SurveyorView.{SurveyorStands}
use Rattle.cycle_trace.specs.Trace.{TraceText}
use Rattle.type_split.specs.Streams.{plain_split}
use Rattle.trace_decode.specs.Standing.{DecoderStands}
use Rattle.port_drive.proofs.TraceLemmas.{left-rows}
use Rattle.port_gen.specs.Jobs.{job_value}
use Rattle.port_gen.specs.Starting.{job_in}
use Rattle.port_gen.specs.Summaries.{job_trace}
use Rattle.port_gen.specs.Sums.{SumStands}
use Rattle.port_gen.proofs.SummaryLemmas.{heads-are, job-header, job-known, job-owed, job-whole, summary-if}
use Rattle.port_gen.proofs.summary.summarized.Goals as goal

pub start-requires : goal.start-requires
start-requires c =
    let split = plain_split c.args.split.now in
    let made = c.requires.made in
    let heads = heads-are split c.as_slice.result.now c.in_ok-heads_of.field-0 c.as_slice.ensures c.in_ok-heads_of.ensures in
    record {
      fresh = (c.new.ensures, (c.new-2.ensures, c.new-3.ensures.stands));
      header = job-header split made.0 made.1.0 (job_in c.args.job) c.requires.can c.heads_stand_together.ensures.form made.1.1 _ refl heads;
    }

pub hand_rows-requires : goal.hand_rows-requires
hand_rows-requires c =
    let split = plain_split c.args.split.now in
    let made = c.requires.made in
    let heads = heads-are split c.as_slice.result.now c.in_ok-heads_of.field-0 c.as_slice.ensures c.in_ok-heads_of.ensures in
    let header : Header = record { cycles = c.args.job.cycles; heads = c.in_ok-heads_of.field-0 } in
    let owed = job-owed split made.0 made.1.0 (job_in c.args.job) c.requires.can c.heads_stand_together.ensures.form made.1.1 header refl heads _ (left-rows c.args.job.cycles c.args.job.run c.requires.start) in
    (begun_by header, (c.in_ok-start.ensures.started, owed))

pub found-requires : goal.found-requires
found-requires c =
    let split = plain_split c.args.split.now in
    let made = c.requires.made in
    let heads = heads-are split c.as_slice.result.now c.in_ok-heads_of.field-0 c.as_slice.ensures c.in_ok-heads_of.ensures in
    let header : Header = record { cycles = c.args.job.cycles; heads = c.in_ok-heads_of.field-0 } in
    let rows = left-rows c.args.job.cycles c.args.job.run c.requires.start in
    let owed = job-owed split made.0 made.1.0 (job_in c.args.job) c.requires.can c.heads_stand_together.ensures.form made.1.1 header refl heads _ rows in
    let whole = job-whole split made.0 made.1.0 (job_in c.args.job) c.requires.can c.heads_stand_together.ensures.form made.1.1 header refl heads _ rows in
    let taken = subst (λ (t : TraceText). SumStands c.hand_rows.new.sink.one (Some t) × (SurveyorStands c.hand_rows.new.sink.other.one (Some t) × DecoderStands c.hand_rows.new.sink.other.other (Some t))) whole
    (c.in_ok-hand_rows.ensures.taken (begun_by header) c.in_ok-start.ensures.started owed) in (
      job_value split made.0 made.1.0,
      (
        job_trace split (job_in c.args.job),
        (
          job-known split made.0 made.1.0 (job_in c.args.job) c.requires.can c.heads_stand_together.ensures.form made.1.1,
          record {
            summed = taken.0;
            surveyed = taken.1.0;
            decoded = taken.1.1;
            split_is = ap (λ s. s.1.1) c.in_ok-hand_rows.ensures.setting ∙ ap (λ s. s.1.1) c.in_ok-start.ensures.setting ∙ c.new-3.ensures.split;
          },
        ),
      ),
    )

pub returns : goal.returns
returns c =
    let split = plain_split c.args.split.now in
    let made = c.requires.made in
    let heads = heads-are split c.as_slice.result.now c.in_ok-heads_of.field-0 c.as_slice.ensures c.in_ok-heads_of.ensures in
    let header : Header = record { cycles = c.args.job.cycles; heads = c.in_ok-heads_of.field-0 } in
    let rows = left-rows c.args.job.cycles c.args.job.run c.requires.start in
    let owed = job-owed split made.0 made.1.0 (job_in c.args.job) c.requires.can c.heads_stand_together.ensures.form made.1.1 header refl heads _ rows in
    let whole = job-whole split made.0 made.1.0 (job_in c.args.job) c.requires.can c.heads_stand_together.ensures.form made.1.1 header refl heads _ rows in
    let taken = subst (λ (t : TraceText). SumStands c.hand_rows.new.sink.one (Some t) × (SurveyorStands c.hand_rows.new.sink.other.one (Some t) × DecoderStands c.hand_rows.new.sink.other.other (Some t))) whole
    (c.in_ok-hand_rows.ensures.taken (begun_by header) c.in_ok-start.ensures.started owed) in
    summary-if c.found.result split (job_in c.args.job) c.requires.can c.heads_stand_together.ensures.form c.hand_rows.new.sink.one c.hand_rows.new.sink.other.one c.hand_rows.new.sink.other.other
    (record {
      summed = taken.0;
      surveyed = taken.1.0;
      decoded = taken.1.1;
      split_is = ap (λ s. s.1.1) c.in_ok-hand_rows.ensures.setting ∙ ap (λ s. s.1.1) c.in_ok-start.ensures.setting ∙ c.new-3.ensures.split;
    }) c.found.ensures
