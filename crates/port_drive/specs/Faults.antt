-- The errors of driving a port, apart from want of memory (this project's own).
use Rattle.std.specs.Prelude.{ℕ, Option, Some, None}
use Rattle.scheduler.specs.declared.fault.ScheduleFault.{ScheduleFault}
use Rattle.scheduler.specs.declared.fault.ScheduleFault.TheVariants as schedules
use Rattle.port_drive.specs.declared.fault.DriveFault.{DriveFault}
use Rattle.port_drive.specs.declared.fault.DriveFault.TheVariants as faults
use Rattle.port_drive.specs.Drives.{CountNotMultiple, NotFinished, Undriven}

-- why a port is not driven, as the code reports it; want of memory is no reason
abbrev pub reason_in : DriveFault → Option Undriven
reason_in (faults.CountNotMultiple stream count lanes) = Some (CountNotMultiple stream count lanes)
reason_in (faults.NotFinished stream left) = Some (NotFinished stream left)
reason_in faults.Memory = None

-- the same, where the stream of this number has no schedule
abbrev pub reason_of : ℕ → ScheduleFault → Option Undriven
reason_of number (schedules.CountNotMultiple count lanes) = Some (CountNotMultiple number count lanes)
reason_of number schedules.Memory = None
