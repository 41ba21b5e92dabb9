-- What is said of a job (this project's own).
use Rattle.std.specs.Prelude.{ℕ, List, length, Result, Ok}
use Rattle.tydi_base.specs.Reading.{◌>>=◌}
use Rattle.cycle_trace.specs.Survey.{counts_of}
use Rattle.cycle_trace.specs.Trace.{TraceText, streams_of}
use Rattle.type_split.specs.Streams.{PlainSplit}
use Rattle.logical_value.specs.Tree.{Tree}
use Rattle.value_text.specs.Canonical.{canonical}
use Rattle.port_drive.specs.Laws.{trace_of}
use Rattle.trace_decode.specs.Outcome.{users_on}
use Rattle.port_gen.specs.Jobs.{Job, NoJob, job_of, job_value}
use Rattle.port_gen.specs.Sums.{text_sum_of}
use Rattle.port_gen.specs.declared.summary.JobSummary.{JobSummary}

-- the summary of a job: the transfers and the packets of each stream, how many cycles it has, the length of the canonical text of what it
-- carries, and the sum of all bytes of the text of its trace modulo 2^32
pub record Summary : Type 0 where
  pub counts : List (ℕ × ℕ)
  pub cycles : ℕ
  pub text : ℕ
  pub trace : ℕ

-- the trace of a job
abbrev pub job_trace : PlainSplit → Job → TraceText
job_trace split job = trace_of split job.cycles job.runs

-- the summary of a trace that carries this value
abbrev pub summary_of_trace : PlainSplit → List (List Tree) → TraceText → Summary
summary_of_trace split value t = record {
  counts = (counts_of (streams_of t)).streams;
  cycles = t.cycles;
  text = length (canonical split value (users_on (streams_of t)));
  trace = text_sum_of t;
}

-- the summary of the job that a seed and a count make of a port, or why there is none
abbrev pub summary_of : PlainSplit → (seed count : ℕ) → Result Summary NoJob
summary_of split seed count = job_of split seed count >>= λ job. Ok (summary_of_trace split (job_value split seed count) (job_trace split job))

-- a summary, apart from where it lies in memory
abbrev pub summary_in : JobSummary → Summary
summary_in summary = record { counts = summary.counts.streams; cycles = summary.cycles; text = summary.text; trace = summary.trace }
