-- The errors of a trace text and of a row of it, apart from want of memory (this project's own).
use Rattle.std.specs.Prelude.{ℕ, Option, Some, None}
use Rattle.cycle_trace.specs.declared.fault.TraceFault.{TraceFault}
use Rattle.cycle_trace.specs.declared.fault.TraceFault.TheVariants as faults

-- the fault that an error stands for; want of memory is none
abbrev pub fault_in : TraceFault → Option TraceFault
fault_in (faults.BadHeader line) = Some (faults.BadHeader line)
fault_in faults.TooManyCycles = Some faults.TooManyCycles
fault_in (faults.BadRow line) = Some (faults.BadRow line)
fault_in (faults.WrongSignals line) = Some (faults.WrongSignals line)
fault_in (faults.RowsMissing want got) = Some (faults.RowsMissing want got)
fault_in (faults.RowsLeft line) = Some (faults.RowsLeft line)
fault_in faults.Memory = None

-- the error of the header line of this number, where there is one
abbrev pub header_fault : ℕ → Option (Unit {0}) → Option TraceFault
header_fault line None = None
header_fault line (Some e) = Some (faults.BadHeader line)
