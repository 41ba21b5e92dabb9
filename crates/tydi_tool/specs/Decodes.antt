-- The outcome of the trace of a port, and the answer of `decode` (this project's own).
use Rattle.std.specs.Prelude.{◌≡◌, ℕ, ◌++◌, ◌<◌, List, Result, Ok, Err, codes, decimal}
use Rattle.tydi_base.specs.Path.{path_text}
use Rattle.cycle_trace.specs.Trace.{TraceText}
use Rattle.cycle_trace.specs.TraceText.{trace_of}
use Rattle.cycle_trace.specs.declared.fault.TraceFault.{TraceFault}
use Rattle.logical_value.specs.Tree.{plain_port}
use Rattle.trace_decode.specs.Outcome.{Carried, Disagrees, IsOutcome, Offends, OtherHeader, Outcome, Unfinished}
use Rattle.trace_decode.specs.declared.fault.DecodeFault.{DecodeFault}
use Rattle.trace_decode.specs.declared.fault.DecodeFault.TheVariants as faults
use Rattle.type_split.specs.Streams.{PlainSplit}
use Rattle.value_text.specs.Canonical.{canonical}
use Rattle.tydi_tool.specs.declared.answer.Answer.{Answer}
use Rattle.tydi_tool.specs.declared.answer.Answer.TheVariants as answers
use Rattle.tydi_tool.specs.declared.answer.Reply.{Reply}
use Rattle.tydi_tool.specs.declared.answer.Reply.TheVariants as replies
use Rattle.tydi_tool.specs.declared.decoding.Decoding.{Decoding}
use Rattle.tydi_tool.specs.declared.decoding.Decoding.TheVariants as found
use Rattle.tydi_tool.specs.Drives.{path_of}
use Rattle.tydi_tool.specs.Lines.{offence_line}
use Rattle.tydi_tool.specs.Outcome.{output_answer}
use Rattle.tydi_tool.specs.Reading.{RefusesBy}
use Rattle.tydi_tool.specs.Refusals.{Number, Refusal, of_file_with, refusal_line, refusal_of_trace}
use Rattle.tydi_tool.specs.Reports.{IsUnfinished, ReportsEnd}

-- ---- the text of a trace, against a port

-- by what was read of a text: the outcome of the trace against the port, or the first error of the text
abbrev pub ReadsOutcomeOf : PlainSplit → List ℕ → Result TraceText TraceFault → Result Outcome (List ℕ) → Type 0
ReadsOutcomeOf split word (Ok trace) (Ok outcome) = IsOutcome split trace outcome
ReadsOutcomeOf split word (Ok trace) (Err line) = ⊥
ReadsOutcomeOf split word (Err fault) read = RefusesBy (refusal_of_trace word fault) read

-- the text of a trace is read as its outcome against a port
abbrev pub ReadsOutcome : PlainSplit → List ℕ → List ℕ → Result Outcome (List ℕ) → Type 0
ReadsOutcome split word bytes read = ReadsOutcomeOf split word (trace_of bytes) read

-- ---- the answer

-- the refusal of a trace of this word whose heads differ from those of the port, first at this place
abbrev pub other_header : List ℕ → ℕ → Refusal
other_header word place = of_file_with (codes "OtherHeader") word (Number place)

-- the line of the first packet at which the streams disagree
abbrev pub disagree_line : List (List ℕ) → ℕ → List ℕ
disagree_line path packet = codes "disagree stream " ++ path_text path ++ codes " packet " ++ decimal packet ++ codes "\n"

-- the answer to a trace of this word with this outcome: the canonical text of the value that it carries and of the user words of the transfers
-- done; the refusal of its heads; or the first place at which it is not legal, not whole or not of one value
abbrev pub TellsOutcome : PlainSplit → List ℕ → Outcome → Answer → Type 0
TellsOutcome split word (OtherHeader place) a = a ≡ answers.Refused (refusal_line (other_header word place))
TellsOutcome split word (Offends first) a = a ≡ answers.Verdict (offence_line first.cycle (path_of split first.stream) first.rule)
TellsOutcome split word (Unfinished left) a = ReportsEnd (path_of split left.stream) left.end a
TellsOutcome split word (Disagrees place) a = a ≡ answers.Verdict (disagree_line place.path place.packet)
TellsOutcome split word (Carried roots users) a = a ≡ output_answer (canonical split roots users)

-- ---- in code

-- what was found, as an outcome
abbrev pub outcome_in : Decoding → Outcome
outcome_in (found.OtherHeader place) = OtherHeader place
outcome_in (found.Offence cycle stream rule) = Offends (record { cycle = cycle; stream = stream; rule = rule })
outcome_in (found.Unfinished stream end) = Unfinished (record { stream = stream; end = end })
outcome_in (found.Disagree path packet) = Disagrees (record { path = path; packet = packet })
outcome_in (found.Carried decoded) = Carried (plain_port decoded.value) decoded.users

-- a trace without a value, as it is reported, or want of memory
abbrev pub IsFound : DecodeFault → Result Decoding Reply → Type 0
IsFound (faults.OtherHeader place) result = result ≡ Ok (found.OtherHeader place)
IsFound (faults.Offence cycle stream rule) result = result ≡ Ok (found.Offence cycle stream rule)
IsFound (faults.Unfinished stream end) result = result ≡ Ok (found.Unfinished stream end)
IsFound (faults.Disagree path packet) result = result ≡ Ok (found.Disagree path packet)
IsFound faults.Memory result = result ≡ Err replies.Memory

-- an outcome names one of so many streams, and no end that is whole
abbrev pub NamesStream : ℕ → Outcome → Type 0
NamesStream streams (Offends first) = first.stream < streams
NamesStream streams (Unfinished left) = (left.stream < streams) × IsUnfinished left.end
NamesStream streams outcome = Unit {0}
