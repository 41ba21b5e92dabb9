-- The faults of a plan's text, apart from want of memory (this project's own).
use Rattle.std.specs.Prelude.{Option, Some, None}
use Rattle.plan_text.specs.declared.fault.PlanFault.{PlanFault}
use Rattle.plan_text.specs.declared.fault.PlanFault.TheVariants as faults

-- the fault that an error stands for; want of memory is none
abbrev pub fault_in : PlanFault → Option PlanFault
fault_in (faults.Syntax place) = Some (faults.Syntax place)
fault_in (faults.UnknownStream place) = Some (faults.UnknownStream place)
fault_in (faults.StreamTwice place) = Some (faults.StreamTwice place)
fault_in (faults.ReadyLength place) = Some (faults.ReadyLength place)
fault_in (faults.MaskTooWide place) = Some (faults.MaskTooWide place)
fault_in (faults.UserTooWide place) = Some (faults.UserTooWide place)
fault_in (faults.TooManyCycles place) = Some (faults.TooManyCycles place)
fault_in faults.Memory = None
