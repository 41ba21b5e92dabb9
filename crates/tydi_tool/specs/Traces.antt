-- How the text of a trace is read (this project's own).
use Rattle.std.specs.Prelude.{◌≡◌, ◌≢◌, ℕ, List, Result, Ok, Err}
use Rattle.cycle_trace.specs.Trace.{TraceText, streams_of}
use Rattle.cycle_trace.specs.TraceText.{trace_of}
use Rattle.cycle_trace.specs.Survey.{Surveys}
use Rattle.cycle_trace.specs.Surveying.{offends_in}
use Rattle.physical_stream.specs.declared.head.Head.{Head}
use Rattle.cycle_trace.specs.declared.surveying.counts.Counts.{Counts}
use Rattle.cycle_trace.specs.declared.surveying.counts.SurveyFault.{SurveyFault}
use Rattle.cycle_trace.specs.declared.surveying.counts.SurveyFault.TheVariants as faults
use Rattle.cycle_trace.specs.declared.fault.TraceFault.{TraceFault}
use Rattle.tydi_tool.specs.declared.answer.Reply.{Reply}
use Rattle.tydi_tool.specs.declared.answer.Reply.TheVariants as replies
use Rattle.tydi_tool.specs.declared.traces.Survey.{Survey}
use Rattle.tydi_tool.specs.Reading.{RefusesBy}
use Rattle.tydi_tool.specs.Refusals.{refusal_of_trace}

-- the heads of a trace, and what a survey of its streams finds
pub record IsSurvey (trace : TraceText) (survey : Survey) : Type 0 where
  pub heads : survey.heads ≡ trace.heads
  pub found : Surveys (offends_in trace) (streams_of trace) survey.found

abbrev pub ReadsSurvey : TraceText → Result Survey (List ℕ) → Type 0
ReadsSurvey trace (Ok survey) = IsSurvey trace survey
ReadsSurvey trace (Err line) = ⊥

-- by what was read of a text: a survey of the trace, or its first fault
abbrev pub ReadsReading : List ℕ → Result TraceText TraceFault → Result Survey (List ℕ) → Type 0
ReadsReading word (Ok trace) read = ReadsSurvey trace read
ReadsReading word (Err fault) read = RefusesBy (refusal_of_trace word fault) read

-- the text of a trace is read as a survey of it
abbrev pub ReadsTrace : List ℕ → List ℕ → Result Survey (List ℕ) → Type 0
ReadsTrace word bytes read = ReadsReading word (trace_of bytes) read

-- a survey as it was made, or want of memory exactly where it met that
abbrev pub IsKept : List Head → Result Counts SurveyFault → Result Survey Reply → Type 0
IsKept heads found (Ok survey) = (survey.heads ≡ heads) × ((survey.found ≡ found) × (found ≢ Err faults.Memory))
IsKept heads found (Err reply) = (reply ≡ replies.Memory) × (found ≡ Err faults.Memory)
