-- What a value change dump shows (this project's own).
use Rattle.std.specs.Prelude.{ℕ, nat_lt, if◌then◌else◌, List, length, Option, Some, None, Result, Ok, Err}
use Rattle.cycle_trace.specs.Trace.{TraceText, most_cycles}
use Rattle.physical_stream.specs.declared.head.Head.{Head}
use Rattle.vcd_read.specs.History.{Part, clock_in, edges, time_back}
use Rattle.vcd_read.specs.Profile.{parts_of}
use Rattle.vcd_read.specs.Sampled.{not_bit, sampled}
use Rattle.vcd_read.specs.Wanted.{Codes, Wanted, codes_in, widths_in, wiring_fault}
use Rattle.vcd_read.specs.declared.fault.VcdFault.{VcdFault}
use Rattle.vcd_read.specs.declared.fault.VcdFault.TheVariants as faults
use Rattle.vcd_read.specs.declared.place.Place.{Place}

-- the fault that an error stands for; want of memory is none
abbrev pub fault_in : VcdFault → Option VcdFault
fault_in (faults.Syntax offset) = Some (faults.Syntax offset)
fault_in (faults.TimeBack offset) = Some (faults.TimeBack offset)
fault_in faults.NoClock = Some faults.NoClock
fault_in (faults.NoSignal stream signal) = Some (faults.NoSignal stream signal)
fault_in (faults.OtherWidth stream signal) = Some (faults.OtherWidth stream signal)
fault_in faults.TooManyCycles = Some faults.TooManyCycles
fault_in (faults.NotBit cycle stream) = Some (faults.NotBit cycle stream)
fault_in faults.Memory = None

-- each row is of bits
unfoldable pub rows_shown : TraceText → Option Place → Result TraceText VcdFault
rows_shown trace None = Ok trace
rows_shown trace (Some place) = Err (faults.NotBit place.cycle place.stream)

-- the rising edges are not too many, and each row is of bits
unfoldable pub edges_shown : Codes → List Head → List (List Part) → Result TraceText VcdFault
edges_shown codes heads rising =
    if nat_lt most_cycles (length rising) then Err faults.TooManyCycles else rows_shown (sampled codes heads rising) (not_bit codes heads 0 rising)

-- the same of a clock, which rises at these edges
unfoldable pub clock_shown : Codes → List Head → List Part → Option (List ℕ) → Result TraceText VcdFault
clock_shown codes heads parts (Some clock) = edges_shown codes heads (edges clock parts)
clock_shown codes heads parts None = Err faults.NoClock

-- nothing is wrong with the clock and the signals, and what they show is so
unfoldable pub wiring_shown : Wanted → List Part → Option VcdFault → Result TraceText VcdFault
wiring_shown wanted parts None = clock_shown (codes_in wanted.scope parts) wanted.heads parts (clock_in wanted.scope parts)
wiring_shown wanted parts (Some fault) = Err fault

-- what the parts of a text show, by its signals and its edges
abbrev pub signals_shown : Wanted → List Part → Result TraceText VcdFault
signals_shown wanted parts = wiring_shown wanted parts (wiring_fault (codes_in wanted.scope parts) (widths_in parts)
    (clock_in wanted.scope parts) wanted.heads)

-- no time stamp is below the one before it, and what the signals show is so
unfoldable pub times_shown : Wanted → List Part → Option ℕ → Result TraceText VcdFault
times_shown wanted parts None = signals_shown wanted parts
times_shown wanted parts (Some offset) = Err (faults.TimeBack offset)

-- the text is of the profile, and what its parts show is so
unfoldable pub parts_shown : Wanted → Result (List Part) ℕ → Result TraceText VcdFault
parts_shown wanted (Ok parts) = times_shown wanted parts (time_back parts)
parts_shown wanted (Err offset) = Err (faults.Syntax offset)

-- the trace of the wanted streams that a text shows, or its first error in this order: a token against the profile, a time stamp that goes back,
-- no clock, a signal that is missing or has another width, too many rising edges, a row that is not of bits
abbrev pub shown : Wanted → List ℕ → Result TraceText VcdFault
shown wanted text = parts_shown wanted (parts_of text)
