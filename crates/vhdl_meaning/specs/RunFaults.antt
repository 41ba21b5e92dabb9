-- The errors of a run text, apart from want of memory (this project's own).
use Rattle.std.specs.Prelude.{Option, Some, None}
use Rattle.vhdl_meaning.specs.declared.run.RunFault.{RunFault}
use Rattle.vhdl_meaning.specs.declared.run.RunFault.TheVariants as faults

-- the error of a reading; want of memory is none
abbrev pub fault_in : RunFault → Option RunFault
fault_in (faults.Syntax place) = Some (faults.Syntax place)
fault_in (faults.UnknownStream place) = Some (faults.UnknownStream place)
fault_in (faults.StreamTwice place) = Some (faults.StreamTwice place)
fault_in (faults.ReadyLength place) = Some (faults.ReadyLength place)
fault_in (faults.NotOrder place) = Some (faults.NotOrder place)
fault_in (faults.TooManyCycles place) = Some (faults.TooManyCycles place)
fault_in (faults.TooManyOrders place) = Some (faults.TooManyOrders place)
fault_in faults.Memory = None
