-- How what a survey of a trace finds is reported (this project's own).
use Rattle.std.specs.Prelude.{◌≡◌, ℕ, ◌<◌, List, [], map, Result, Ok, Err}
use Rattle.std.specs.List.{slice_index_or}
use Rattle.physical_stream.specs.declared.end.End.{End}
use Rattle.physical_stream.specs.declared.end.End.TheVariants as ends
use Rattle.physical_stream.specs.declared.head.Head.{Head}
use Rattle.cycle_trace.specs.declared.surveying.counts.Counts.{Counts}
use Rattle.cycle_trace.specs.declared.surveying.counts.SurveyFault.{SurveyFault}
use Rattle.cycle_trace.specs.declared.surveying.counts.SurveyFault.TheVariants as faults
use Rattle.tydi_tool.specs.declared.answer.Answer.{Answer}
use Rattle.tydi_tool.specs.declared.answer.Answer.TheVariants as answers
use Rattle.tydi_tool.specs.Lines.{offence_line, pending_line, unclosed_line, legal_text}
use Rattle.tydi_tool.specs.Outcome.{output_answer}

-- the path of the stream of this number
abbrev pub path_of_stream : List Head → ℕ → List (List ℕ)
path_of_stream heads stream = slice_index_or (map (λ head. head.path) heads) stream []

-- the answer on a stream that does not end whole
abbrev pub ReportsEnd : List (List ℕ) → End → Answer → Type 0
ReportsEnd path ends.Whole a = ⊥
ReportsEnd path ends.Pending a = a ≡ answers.Verdict (pending_line path)
ReportsEnd path (ends.Unclosed k) a = a ≡ answers.Verdict (unclosed_line path k)

-- the answer on what was found: the counts of each stream, the first offence, or the first stream that does not end whole.
-- Nothing else is found.
abbrev pub Reports : List Head → Result Counts SurveyFault → Answer → Type 0
Reports heads (Ok counts) a = a ≡ output_answer (legal_text heads counts.streams)
Reports heads (Err (faults.Offence cycle stream rule)) a = a ≡ answers.Verdict (offence_line cycle (path_of_stream heads stream) rule)
Reports heads (Err (faults.Unfinished stream end)) a = ReportsEnd (path_of_stream heads stream) end a
Reports heads (Err faults.Memory) a = ⊥

-- the end of a stream that is not whole
abbrev pub IsUnfinished : End → Type 0
IsUnfinished ends.Whole = ⊥
IsUnfinished ends.Pending = Unit {0}
IsUnfinished (ends.Unclosed k) = Unit {0}

-- the finding about so many streams names one of them, and no end that is whole. It is not want of memory.
abbrev pub IsFoundAmong : ℕ → Result Counts SurveyFault → Type 0
IsFoundAmong streams (Ok counts) = Unit {0}
IsFoundAmong streams (Err (faults.Offence cycle stream rule)) = stream < streams
IsFoundAmong streams (Err (faults.Unfinished stream end)) = (stream < streams) × IsUnfinished end
IsFoundAmong streams (Err faults.Memory) = ⊥
