-- The law of `gen` (this project's own): what its summary says of the job.
use Rattle.std.specs.Prelude.{◌≡◌, ℕ, ◌≤◌, List, length, Some, Ok}
use Rattle.tydi_io.specs.Store.{Files}
use Rattle.port_drive.specs.Text.{drive_text, written_text}
use Rattle.port_gen.specs.Jobs.{Job, job_of, job_value}
use Rattle.port_gen.specs.Laws.{IsCarried}
use Rattle.port_gen.specs.Plans.{job_plan}
use Rattle.port_gen.specs.Summaries.{job_trace, summary_of_trace}
use Rattle.type_split.specs.Streams.{PlainSplit}
use Rattle.tydi_tool.specs.declared.answer.Answer.TheVariants as answers
use Rattle.tydi_tool.specs.Causes.{HasCarried, JobWords}
use Rattle.tydi_tool.specs.Commands.{Says}
use Rattle.tydi_tool.specs.Jobs.{summary_text}
use Rattle.tydi_tool.specs.Words.{Gen}

-- the words of a job
abbrev pub job_words : (project port : List ℕ) (seed count : ℕ) → JobWords
job_words project port seed count = record { at = record { project = project; port = port }; seed = seed; count = count }

-- A summary is written for a port of a project, each node of which is carried. It is that of the job that the seed and the count make of the port.
-- The job drives the port with a value of at most 1,000,000 leaves by a plan that is always ready. The text that `drive` makes of this value
-- and plan is that of a trace, which breaks no rule, ends whole on each stream and carries the value; the summary has the transfers and
-- packets of each of its streams, its cycles, the length of the text that `decode` makes of it, and the sum of the bytes of its text.
pub record WritesSummary (known : Files) (words : JobWords) (text : List ℕ) : Type 0 where
  pub split : PlainSplit
  pub at : HasCarried known words.at split
  pub job : Job
  pub made : job_of split words.seed words.count ≡ Ok job
  pub carried : IsCarried split words.seed words.count job
  pub driven : drive_text split (job_value split words.seed words.count) (job_plan split job.cycles) ≡ Ok (written_text (job_trace split job))
  pub is : text ≡ summary_text split (summary_of_trace split (job_value split words.seed words.count) (job_trace split job))

-- each text that is written is that of such a job
abbrev pub WrittenSummariesAreOfJobs : Type 0
WrittenSummariesAreOfJobs = (known : Files) (project port text : List ℕ) (seed count : ℕ) → Says (Some known) (Some (Gen project port seed count)) (answers.Done text)
    → (length text ≤ 67108864) × WritesSummary known (job_words project port seed count) text
