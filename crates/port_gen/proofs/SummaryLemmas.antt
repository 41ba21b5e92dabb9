-- What the sinks find of the rows of a job.
use Rattle.std.proofs.Common.{◌≡◌, ◌∙◌, ℕ, Bool, List, [], length, map, Option, None, Some, MatchOption, Result, Ok, Err, refl, sym, ap, subst, arith}
use Rattle.std.specs.Prelude.{IfOk}
use Rattle.tydi_base.specs.Reading.{◌>>=◌}
use Rattle.physical_stream.specs.Cycles.{Cycle}
use Rattle.physical_stream.specs.First.{IsFirst, Offence}
use Rattle.physical_stream.specs.declared.head.Head.{Head}
use Rattle.physical_stream.specs.declared.head.Header.{Header}
use Rattle.cycle_trace.specs.RowSink.{IsHeader, begun_by}
use Rattle.cycle_trace.specs.Survey.{UnfinishedStream, counts_of, first_unfinished, survey_of}
use Rattle.cycle_trace.specs.Surveying.{offends_in}
use Rattle.cycle_trace.specs.Trace.{TraceText, are_heads, streams_of}
use Rattle.cycle_trace.specs.declared.surveying.counts.Counts.{Counts}
use Rattle.cycle_trace.specs.declared.surveying.counts.SurveyFault.{SurveyFault}
use Rattle.cycle_trace.specs.declared.surveying.counts.SurveyFault.TheVariants as surveys
use Rattle.cycle_trace.specs.declared.surveying.surveyor.Surveyor.{Surveyor}
use Rattle.handshake.specs.Rows as port
use Rattle.type_split.specs.Streams.{PlainSplit}
use Rattle.type_split.specs.declared.split.Phys.{Phys}
use Rattle.logical_value.specs.Tree.{Tree, plain_port}
use Rattle.value_text.specs.Canonical.{canonical}
use Rattle.port_drive.specs.Drives.{head_of_stream, heads_of}
use Rattle.port_drive.specs.Text.{AreHeadsInForm}
use Rattle.port_drive.proofs.HeadLemmas.{heads-together}
use Rattle.trace_decode.specs.Outcome.{Carried, Disagrees, IsOutcome, Offends, OtherHeader, Outcome, Unfinished, users_on}
use Rattle.trace_decode.specs.Standing.{CanDecode}
use Rattle.trace_decode.specs.declared.decoded.Decoded.{Decoded}
use Rattle.trace_decode.specs.declared.decoder.Decoder.{Decoder}
use Rattle.trace_decode.specs.declared.fault.DecodeFault.TheVariants as decodes
use Rattle.trace_decode.proofs.LawLemmas.{one_outcome}
use Rattle.port_gen.specs.Found.{HaveTaken, IsCarriedDecoding, IsKnown, IsLegalSurvey}
use Rattle.port_gen.specs.Handing.{AreOwed, with_rows}
use Rattle.port_gen.specs.Jobs.{Job, NoJob, job_of, job_value}
use Rattle.port_gen.specs.Laws.{IsCarried}
use Rattle.port_gen.specs.Summaries.{Summary, job_trace, summary_in, summary_of, summary_of_trace}
use Rattle.port_gen.specs.declared.summary.JobSummary.{JobSummary}
use Rattle.port_gen.specs.declared.text_sum.TextSum.{TextSum}
use Rattle.port_gen.proofs.HandLemmas.{rows-owed}
use Rattle.port_gen.proofs.LawLemmas.{jobs-are-carried}

-- ---- the survey of a trace that breaks no rule and ends whole

first-none : (t : TraceText) (first : Option Offence) → IsFirst (offends_in t) None → IsFirst (offends_in t) first → first ≡ None
first-none t None none is = refl
first-none t (Some o) none is = absurd (none o is.0)

module _ (t : TraceText) where
  counts-by : (found : Result Counts SurveyFault) (first : Option Offence) (unfinished : Option UnfinishedStream) → first ≡ None → unfinished ≡ None
      → found ≡ survey_of first unfinished (counts_of (streams_of t)) → found ≡ Ok (counts_of (streams_of t))
  counts-by found first unfinished none whole says =
      says ∙ ap (λ (o : Option Offence). survey_of o unfinished (counts_of (streams_of t))) none ∙ ap (λ (u : Option UnfinishedStream). survey_of None u (counts_of (streams_of t))) whole

  pub legal-ok : (counts : Counts) → IsLegalSurvey t (Ok counts) → counts ≡ counts_of (streams_of t)
  legal-ok counts is =
      let all : Ok counts ≡ Ok (counts_of (streams_of t)) =
      counts-by (Ok counts) is.answers.first (first_unfinished 0 (streams_of t)) (first-none t is.answers.first is.legal is.answers.is_first) is.whole is.answers.says in
      cc

  pub legal-no-offence : (cycle stream : ℕ) (rule : _) → IsLegalSurvey t (Err (surveys.Offence cycle stream rule)) → ⊥
  legal-no-offence cycle stream rule is =
      let all : Err (surveys.Offence cycle stream rule) ≡ Ok (counts_of (streams_of t)) =
      counts-by (Err (surveys.Offence cycle stream rule)) is.answers.first (first_unfinished 0 (streams_of t)) (first-none t is.answers.first is.legal is.answers.is_first) is.whole is.answers.says in
      cc

  pub legal-whole : (stream : ℕ) (end : _) → IsLegalSurvey t (Err (surveys.Unfinished stream end)) → ⊥
  legal-whole stream end is =
      let all : Err (surveys.Unfinished stream end) ≡ Ok (counts_of (streams_of t)) =
      counts-by (Err (surveys.Unfinished stream end)) is.answers.first (first_unfinished 0 (streams_of t)) (first-none t is.answers.first is.legal is.answers.is_first) is.whole is.answers.says in
      cc

-- ---- the decoding of a trace that carries a value

abbrev roots_in : Outcome → List (List Tree)
roots_in (Carried roots users) = roots
roots_in outcome = []

abbrev users_in : Outcome → List (List (List Bool))
users_in (Carried roots users) = users
users_in outcome = []

module _ (split : PlainSplit) (t : TraceText) (value : List (List Tree)) (users : List (List (List Bool))) where
  pub carried-ok : (decoded : Decoded) → IsCarriedDecoding split t value users (Ok decoded) → (plain_port decoded.value ≡ value) × (decoded.users ≡ users)
  carried-ok decoded is =
      let same = one_outcome split is.can t (Carried (plain_port decoded.value) decoded.users) (Carried value users) is.decodes is.carries in
      (ap roots_in same, ap users_in same)

  not-so : (outcome : Outcome) → IsOutcome split t outcome → CanDecode split → IsOutcome split t (Carried value users) → outcome ≡ Carried value users
  not-so outcome is can carries = one_outcome split can t outcome (Carried value users) is carries

  pub carried-told : (place : ℕ) → IsCarriedDecoding split t value users (Err (decodes.OtherHeader place)) → ⊥
  carried-told place is = let same = not-so (OtherHeader place) is.decodes is.can is.carries in cc

  pub carried-legal : (cycle stream : ℕ) (rule : _) → IsCarriedDecoding split t value users (Err (decodes.Offence cycle stream rule)) → ⊥
  carried-legal cycle stream rule is = let same = not-so (Offends (record { cycle = cycle; stream = stream; rule = rule })) is.decodes is.can is.carries in cc

  pub carried-whole : (stream : ℕ) (end : _) → IsCarriedDecoding split t value users (Err (decodes.Unfinished stream end)) → ⊥
  carried-whole stream end is = let same = not-so (Unfinished (record { stream = stream; end = end })) is.decodes is.can is.carries in cc

  pub carried-agrees : (path : List (List ℕ)) (packet : ℕ) → IsCarriedDecoding split t value users (Err (decodes.Disagree path packet)) → ⊥
  carried-agrees path packet is = let same = not-so (Disagrees (record { path = path; packet = packet })) is.decodes is.can is.carries in cc

-- ---- the summary of what was found

pub found-summary : (split : PlainSplit) (value : List (List Tree)) (t : TraceText) (summary : JobSummary) → summary.counts ≡ counts_of (streams_of t) → summary.cycles ≡ t.cycles
    → summary.text ≡ (summary_of_trace split value t).text → summary.trace ≡ (summary_of_trace split value t).trace → summary_in summary ≡ summary_of_trace split value t
found-summary split value t summary counts cycles text trace =
    let s = summary_of_trace split value t in
    ap (λ (c : List (ℕ × ℕ)). let x : Summary = record { counts = c; cycles = summary.cycles; text = summary.text; trace = summary.trace } in x) (ap (λ (c : Counts). c.streams) counts)
    ∙ ap (λ (n : ℕ). let x : Summary = record { counts = s.counts; cycles = n; text = summary.text; trace = summary.trace } in x) cycles
    ∙ ap (λ (n : ℕ). let x : Summary = record { counts = s.counts; cycles = s.cycles; text = n; trace = summary.trace } in x) text
    ∙ ap (λ (n : ℕ). let x : Summary = record { counts = s.counts; cycles = s.cycles; text = s.text; trace = n } in x) trace

pub found-text : (split : PlainSplit) (value other : List (List Tree)) (users some : List (List (List Bool))) (length_is : ℕ) → length_is ≡ length (canonical split other some) → other ≡ value → some ≡ users
    → length_is ≡ length (canonical split value users)
found-text split value other users some length_is long same_value same_users =
    long ∙ ap (λ (v : List (List Tree)). length (canonical split v some)) same_value ∙ ap (λ (u : List (List (List Bool))). length (canonical split value u)) same_users

-- ---- the rows of a job

module _ (split : PlainSplit) (seed count : ℕ) (job : Job) (can : CanDecode split) (form : AreHeadsInForm split) (is : job_of split seed count ≡ Ok job) where
  pub job-carried : IsCarried split seed count job
  job-carried = jobs-are-carried split seed count job can form is

  pub job-known : IsKnown split (job_value split seed count) (users_on (streams_of (job_trace split job))) job.cycles (job_trace split job)
  job-known = record { can = can; cycles_are = refl; legal = job-carried.legal; whole = job-carried.whole; carries = job-carried.carries }

  module _ (header : Header) (cycles : header.cycles ≡ job.cycles) (heads : header.heads ≡ heads_of split) where
    pub job-header : IsHeader header
    job-header = record { few_cycles = omega (arith, cycles, job-carried.few_cycles); streams = ap are_heads heads ∙ heads-together split can.port form }

    abbrev all_rows : List Cycle
    all_rows = port.rows_from job.runs 0 job.cycles

    begun-is : begun_by header ≡ record { cycles = job.cycles; heads = heads_of split; rows = [] }
    begun-is =
        ap (λ (n : ℕ). let x : TraceText = record { cycles = n; heads = header.heads; rows = [] } in x) cycles
        ∙ ap (λ (l : List Head). let x : TraceText = record { cycles = job.cycles; heads = l; rows = [] } in x) heads

    pub job-owed : (rows : List Cycle) → rows ≡ all_rows → AreOwed (begun_by header) rows
    job-owed rows same =
        subst (AreOwed (begun_by header)) (sym same)
        (subst (λ (t : TraceText). AreOwed t all_rows) (sym begun-is) (rows-owed job.cycles (heads_of split) [] all_rows job-carried.is_trace.shown))

    pub job-whole : (rows : List Cycle) → rows ≡ all_rows → with_rows (begun_by header) rows ≡ job_trace split job
    job-whole rows same = ap (λ (t : TraceText). with_rows t rows) begun-is ∙ ap (λ (l : List Cycle). let x : TraceText = record { cycles = job.cycles; heads = heads_of split; rows = l } in x) same

pub heads-are : (split : PlainSplit) (slice : List Phys) (heads : List Head) → slice ≡ split.streams → heads ≡ map head_of_stream slice → heads ≡ heads_of split
heads-are split slice heads same is = is ∙ ap (map head_of_stream) same

-- ---- the answer

pub summary-made : (split : PlainSplit) (seed count : ℕ) (job : Job) (summary : JobSummary) → job_of split seed count ≡ Ok job
    → summary_in summary ≡ summary_of_trace split (job_value split seed count) (job_trace split job) → summary_of split seed count ≡ Ok (summary_in summary)
summary-made split seed count job summary is same =
    ap (λ (r : Result Job NoJob). r >>= λ one. Ok (summary_of_trace split (job_value split seed count) (job_trace split one))) is ∙ ap Ok (sym same)

pub summary-none : (split : PlainSplit) (seed count : ℕ) (reason : Option NoJob) → MatchOption reason (Unit {0}) (λ one. job_of split seed count ≡ Err one)
    → MatchOption reason (Unit {0}) (λ one. summary_of split seed count ≡ Err one)
summary-none split seed count None why = tt
summary-none split seed count (Some one) why = ap (λ (r : Result Job NoJob). r >>= λ job. Ok (summary_of_trace split (job_value split seed count) (job_trace split job))) why

-- what the sinks found of a job is its summary
pub summary-if : {E : Type 0} (result : Result JobSummary E) (split : PlainSplit) (job : Job) → CanDecode split → AreHeadsInForm split → (text : TextSum) (surveyor : Surveyor) (decoder : Decoder)
    → HaveTaken split (job_trace split job) text surveyor decoder
    → IfOk result (λ summary. (value : List (List Tree)) (t : TraceText) → IsKnown split value (users_on (streams_of t)) job.cycles t → HaveTaken split t text surveyor decoder → summary_in summary ≡ summary_of_trace split value t)
    → IfOk result (λ summary. (seed count : ℕ) → job_of split seed count ≡ Ok job → summary_in summary ≡ summary_of_trace split (job_value split seed count) (job_trace split job))
summary-if (Ok summary) split job can form text surveyor decoder taken found = λ seed count is. found (job_value split seed count) (job_trace split job) (job-known split seed count job can form is) taken
summary-if (Err e) split job can form text surveyor decoder taken found = tt
