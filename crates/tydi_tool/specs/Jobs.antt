-- The answer of `gen`: the summary of the job that two numbers make of a port, or why there is none (this project's own).
use Rattle.std.specs.Prelude.{◌≡◌, ℕ, ◌++◌, ◌<◌, List, [], Result, Ok, Err, codes, decimal}
use Rattle.port_drive.specs.Drives.{heads_of}
use Rattle.port_gen.specs.Jobs.{NoJob, NotDriven, TooManyCycles, TooManyLeaves}
use Rattle.port_gen.specs.Summaries.{Summary, summary_of}
use Rattle.type_split.specs.Streams.{PlainSplit}
use Rattle.tydi_tool.specs.declared.answer.Answer.{Answer}
use Rattle.tydi_tool.specs.Ask.{TellsOf}
use Rattle.tydi_tool.specs.Drives.{refusal_of_driving, stream_of}
use Rattle.tydi_tool.specs.Lines.{counts_text}
use Rattle.tydi_tool.specs.Outcome.{output_answer}
use Rattle.tydi_tool.specs.Refusals.{Refusal}

-- the refusal of a port without a job
abbrev pub refusal_of_job : PlainSplit → NoJob → Refusal
refusal_of_job split TooManyLeaves = record { name = codes "TooManyLeaves"; details = [] }
refusal_of_job split (NotDriven reason) = refusal_of_driving split reason
refusal_of_job split TooManyCycles = record { name = codes "TooManyCycles"; details = [] }

-- a reason names one of so many streams, or none
abbrev pub NamesStreamOf : ℕ → NoJob → Type 0
NamesStreamOf streams TooManyLeaves = Unit {0}
NamesStreamOf streams (NotDriven reason) = stream_of reason < streams
NamesStreamOf streams TooManyCycles = Unit {0}

-- the lines behind those of the streams: the cycles, the bytes of the decoded text, and the sum of the trace
abbrev pub totals_text : (cycles text trace : ℕ) → List ℕ
totals_text cycles text trace = codes "cycles " ++ decimal cycles ++ codes "\ntext " ++ decimal text ++ codes "\ntrace " ++ decimal trace ++ codes "\n"

-- the text of a summary
abbrev pub summary_text : PlainSplit → Summary → List ℕ
summary_text split summary = counts_text (heads_of split) summary.counts ++ totals_text summary.cycles summary.text summary.trace

-- the text of a summary, or the refusal of the reason why there is no job
abbrev pub text_of_job : PlainSplit → Result Summary NoJob → Result (List ℕ) Refusal
text_of_job split (Ok summary) = Ok (summary_text split summary)
text_of_job split (Err reason) = Err (refusal_of_job split reason)

-- the answer on the job that a seed and a count make of a port
abbrev pub TellsJob : PlainSplit → (seed count : ℕ) → Answer → Type 0
TellsJob split seed count a = TellsOf (text_of_job split (summary_of split seed count)) (λ text b. b ≡ output_answer text) a
