-- The job that two numbers make of a port: a value, and the run of each stream over as many cycles as the longest stream has transfers,
-- always ready (this project's own).
use Rattle.std.specs.Prelude.{ℕ, true, nat_lt, if◌then◌else◌, List, length, map, replicate, Option, Some, None, Result, Ok, Err}
use Rattle.tydi_base.specs.Reading.{◌>>=◌}
use Rattle.cycle_trace.specs.Trace.{most_cycles}
use Rattle.type_split.specs.Streams.{PlainSplit}
use Rattle.logical_value.specs.Tree.{Tree, plain}
use Rattle.value_text.specs.Leaves.{most_leaves}
use Rattle.value_gen.specs.Leaves.{leaves_of_roots}
use Rattle.value_gen.specs.Made.{generated}
use Rattle.handshake.specs.Rows.{StreamRun}
use Rattle.port_drive.specs.Drives.{Undriven, runs_of}
use Rattle.port_drive.specs.Drives as driving
use Rattle.port_gen.specs.Longest.{greatest}
use Rattle.port_gen.specs.Plans.{job_plan}
use Rattle.port_gen.specs.declared.fault.JobFault.{JobFault}
use Rattle.port_gen.specs.declared.fault.JobFault.TheVariants as faults

-- why there is no job: the value has over 1,000,000 leaves; the lanes of a stream do not divide its elements; or a stream has over 1,000,000
-- transfers
pub data NoJob : Type 0 where
  TooManyLeaves : NoJob
  NotDriven : Undriven → NoJob
  TooManyCycles : NoJob

-- a result, where a port that is not driven has no job
abbrev pub or_no_job : {A : Type 0} → Result A Undriven → Result A NoJob
or_no_job (Ok a) = Ok a
or_no_job (Err reason) = Err (NotDriven reason)

-- the value of a job, as plain data: a tree for each member of each root
abbrev pub job_value : PlainSplit → (seed count : ℕ) → List (List Tree)
job_value split seed count = map (map plain) (generated split seed count)

-- the greatest number of transfers of one of these runs
abbrev pub most_transfers : List StreamRun → ℕ
most_transfers runs = greatest (map (λ (run : StreamRun). length run.transfers) runs)

-- the run of a stream over so many cycles, in each of which it is ready
abbrev pub always_ready : ℕ → StreamRun → StreamRun
always_ready cycles run = record { params = run.params; transfers = run.transfers; gaps = run.gaps; ready = replicate cycles true }

-- a job: how many cycles it has, and the run of each stream
pub record Job : Type 0 where
  pub cycles : ℕ
  pub runs : List StreamRun

-- the runs of a value by a plan without cycles
abbrev pub runs_at_rest : PlainSplit → List (List Tree) → Result (List StreamRun) Undriven
runs_at_rest split value = runs_of split value (job_plan split 0).streams

-- the runs of the job before their first cycle: they have its transfers, and have done none of them
abbrev pub resting_runs : PlainSplit → (seed count : ℕ) → Result (List StreamRun) NoJob
resting_runs split seed count =
    if nat_lt most_leaves (leaves_of_roots (generated split seed count)) then Err TooManyLeaves
    else or_no_job (runs_at_rest split (job_value split seed count))

-- these runs over so many cycles
abbrev pub job_over : ℕ → List StreamRun → Result Job NoJob
job_over cycles runs = if nat_lt most_cycles cycles then Err TooManyCycles else Ok (record { cycles = cycles; runs = map (always_ready cycles) runs })

-- the job that a seed and a count make of a port
abbrev pub job_of : PlainSplit → (seed count : ℕ) → Result Job NoJob
job_of split seed count = resting_runs split seed count >>= λ runs. job_over (most_transfers runs) runs

-- why there is no job, as the code reports it; want of memory is no reason
abbrev pub reason_in : JobFault → Option NoJob
reason_in faults.TooManyLeaves = Some TooManyLeaves
reason_in (faults.CountNotMultiple stream count lanes) = Some (NotDriven (driving.CountNotMultiple stream count lanes))
reason_in faults.TooManyCycles = Some TooManyCycles
reason_in faults.Memory = None
