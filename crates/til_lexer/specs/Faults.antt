-- The errors of a text, apart from want of memory. This project's own.
use Rattle.std.specs.Prelude.{Option, Some, None}
use Rattle.til_lexer.specs.declared.fault.LexFault.{LexFault}
use Rattle.til_lexer.specs.declared.fault.LexFault.TheVariants as faults

-- the fault that an error stands for; want of memory is none
abbrev pub fault_in : LexFault → Option LexFault
fault_in (faults.StrayChar place) = Some (faults.StrayChar place)
fault_in (faults.OpenString place) = Some (faults.OpenString place)
fault_in (faults.OpenDoc place) = Some (faults.OpenDoc place)
fault_in (faults.NameNotAscii place) = Some (faults.NameNotAscii place)
fault_in (faults.BadName place) = Some (faults.BadName place)
fault_in (faults.NumberTooLong place) = Some (faults.NumberTooLong place)
fault_in faults.Memory = None
