-- The law of jobs (this project's own).
use Rattle.std.specs.Prelude.{◌≡◌, ℕ, ◌≤◌, None, Ok}
use Rattle.physical_stream.specs.First.{IsFirst}
use Rattle.cycle_trace.specs.Survey.{first_unfinished}
use Rattle.cycle_trace.specs.Surveying.{offends_in}
use Rattle.cycle_trace.specs.Trace.{IsTrace, most_cycles, streams_of}
use Rattle.type_split.specs.Streams.{PlainSplit}
use Rattle.value_text.specs.Leaves.{most_leaves}
use Rattle.value_text.specs.Printable.{leaves_of_port}
use Rattle.port_drive.specs.Drives.{drive_of}
use Rattle.port_drive.specs.Text.{AreHeadsInForm, MayDrive}
use Rattle.trace_decode.specs.Outcome.{Carried, IsOutcome, users_on}
use Rattle.trace_decode.specs.Standing.{CanDecode}
use Rattle.port_gen.specs.Jobs.{Job, job_of, job_value}
use Rattle.port_gen.specs.Plans.{job_plan}
use Rattle.port_gen.specs.Summaries.{job_trace}

-- a job drives the port with its value by its plan; its rows are a trace, which breaks no rule, ends whole on each stream and carries the
-- value, and has at most 1,000,000 cycles; and the value has at most 1,000,000 leaves
pub record IsCarried (split : PlainSplit) (seed count : ℕ) (job : Job) : Type 0 where
  pub few_leaves : leaves_of_port (job_value split seed count) ≤ most_leaves
  pub few_cycles : job.cycles ≤ most_cycles
  pub may_drive : MayDrive split (job_value split seed count) (job_plan split job.cycles)
  pub drives : drive_of split (job_value split seed count) (job_plan split job.cycles).streams ≡ Ok job.runs
  pub is_trace : IsTrace (job_trace split job)
  pub legal : IsFirst (offends_in (job_trace split job)) None
  pub whole : first_unfinished 0 (streams_of (job_trace split job)) ≡ None
  pub carries : IsOutcome split (job_trace split job) (Carried (job_value split seed count) (users_on (streams_of (job_trace split job))))

abbrev pub JobsAreCarried : Type 0
JobsAreCarried = (split : PlainSplit) (seed count : ℕ) (job : Job) → CanDecode split → AreHeadsInForm split → job_of split seed count ≡ Ok job → IsCarried split seed count job
