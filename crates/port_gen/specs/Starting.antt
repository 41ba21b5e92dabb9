-- The runs of a job as the code keeps them, before their first row (this project's own).
use Rattle.std.specs.Prelude.{◌≡◌, ℕ, map}
use Rattle.handshake.specs.declared.feed.TransferFeed.{Ghosts}
use Rattle.handshake.specs.declared.port_run.PortRun.{PortRun}
use Rattle.scheduler.specs.declared.planner.Planner.{Planner}
use Rattle.port_drive.specs.Starting.{runs_of_port}
use Rattle.port_drive.specs.declared.fault.DriveFault.{DriveFault}
use Rattle.port_drive.specs.declared.fault.DriveFault.TheVariants as faults
use Rattle.port_gen.specs.Jobs.{Job, always_ready}
use Rattle.port_gen.specs.declared.starting.JobRun.{JobRun}

-- the job of these runs
abbrev pub job_in : JobRun → Job
job_in job = record { cycles = job.cycles; runs = runs_of_port job.run }

-- the runs of the one are those of the other over so many cycles, always ready
abbrev pub IsReadied : {T : Ghosts Planner} → ℕ → (resting run : PortRun Planner T) → Type 0
IsReadied cycles resting run = runs_of_port run ≡ map (always_ready cycles) (runs_of_port resting)

-- an error of runs that are made: not that one of them is not finished
abbrev pub IsOfRuns : DriveFault → Type 0
IsOfRuns (faults.CountNotMultiple stream count lanes) = Unit {0}
IsOfRuns (faults.NotFinished stream left) = ⊥
IsOfRuns faults.Memory = Unit {0}
