-- The laws of dumps: which errors they have, and which traces they show (this project's own).
use Rattle.std.specs.Prelude.{◌≡◌, ℕ, ◌<◌, true, List, length, Ok, Err}
use Rattle.cycle_trace.specs.Trace.{IsTrace, TraceText, are_heads}
use Rattle.vcd_read.specs.Shown.{shown}
use Rattle.vcd_read.specs.Wanted.{Wanted}
use Rattle.vcd_read.specs.declared.fault.VcdFault.{VcdFault}
use Rattle.vcd_read.specs.declared.fault.VcdFault.TheVariants as faults

-- an error of a dump: no want of memory, and a stream that it names is one of so many
abbrev pub IsOfDump : ℕ → VcdFault → Type 0
IsOfDump streams (faults.NoSignal stream signal) = stream < streams
IsOfDump streams (faults.OtherWidth stream signal) = stream < streams
IsOfDump streams (faults.NotBit cycle stream) = stream < streams
IsOfDump streams faults.Memory = ⊥
IsOfDump streams fault = Unit {0}

-- each error of a text is one of a dump
abbrev pub FaultsNameStreams : Type 0
FaultsNameStreams = (wanted : Wanted) (text : List ℕ) (fault : VcdFault) → shown wanted text ≡ Err fault → IsOfDump (length wanted.heads) fault

-- a text of which a trace is shown: it has the wanted heads, and is a trace, each row of which shows what its stream can show
abbrev pub DumpsShowTraces : Type 0
DumpsShowTraces = (wanted : Wanted) (text : List ℕ) (t : TraceText) → are_heads wanted.heads ≡ true → shown wanted text ≡ Ok t → (t.heads ≡ wanted.heads) × IsTrace t
