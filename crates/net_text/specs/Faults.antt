-- The faults of a net's text, apart from want of memory (this project's own).
use Rattle.std.specs.Prelude.{Option, Some, None}
use Rattle.net_text.specs.declared.net.NetFault.{NetFault}
use Rattle.net_text.specs.declared.net.NetFault.TheVariants as faults

-- the fault that an error stands for; want of memory is none
abbrev pub fault_in : NetFault → Option NetFault
fault_in (faults.Syntax place) = Some (faults.Syntax place)
fault_in (faults.UnknownStream place) = Some (faults.UnknownStream place)
fault_in (faults.StreamTwice place) = Some (faults.StreamTwice place)
fault_in (faults.CapacityRange place) = Some (faults.CapacityRange place)
fault_in (faults.TooManyStages place) = Some (faults.TooManyStages place)
fault_in (faults.NotOrder place) = Some (faults.NotOrder place)
fault_in (faults.TooManyOrders place) = Some (faults.TooManyOrders place)
fault_in faults.Memory = None
