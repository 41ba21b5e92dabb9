-- The outcome of the text of a trace against a port's type (this project's own).
use Rattle.std.specs.Prelude.{◌≡◌, ℕ, List, Option, IfSome, Result, Ok, Err}
use Rattle.std.specs.Option.{option_map}
use Rattle.type_split.specs.Streams.{PlainSplit}
use Rattle.logical_value.specs.Tree.{plain_port}
use Rattle.cycle_trace.specs.Faults.{fault_in}
use Rattle.cycle_trace.specs.ReaderView.{IsSpent, StandsFor}
use Rattle.cycle_trace.specs.Trace.{TraceText}
use Rattle.cycle_trace.specs.TraceText.{trace_of}
use Rattle.cycle_trace.specs.declared.fault.TraceFault.{TraceFault}
use Rattle.trace_decode.specs.Outcome.{Carried, IsOutcome, Outcome, outcome_of_fault}
use Rattle.trace_decode.specs.Standing.{DecoderStands, split_in}
use Rattle.trace_decode.specs.declared.decoded.Decoded.{Decoded}
use Rattle.trace_decode.specs.declared.text_decoder.TextDecoder.{TextDecoder}
use Rattle.trace_decode.specs.declared.text_fault.TextFault.{TextFault}
use Rattle.trace_decode.specs.declared.text_fault.TextFault.TheVariants as faults

-- the outcome of a text: its first fault, or the outcome of the trace that it spells
pub data TextOutcome : Type 0 where
  Misspelled : TraceFault → TextOutcome
  Spelled : Outcome → TextOutcome

-- the outcome of a text against a split. A fault of the text comes before each fault of the trace.
abbrev pub IsTextOutcome : PlainSplit → List ℕ → TextOutcome → Type 0
IsTextOutcome split bytes (Misspelled fault) = trace_of bytes ≡ Err fault
IsTextOutcome split bytes (Spelled outcome) = (t : TraceText) × ((trace_of bytes ≡ Ok t) × IsOutcome split t outcome)

-- the outcome that an error reports; want of memory is none
abbrev pub text_outcome_of_fault : TextFault → Option TextOutcome
text_outcome_of_fault (faults.Misspelled fault) = option_map Misspelled (fault_in fault)
text_outcome_of_fault (faults.NoValue fault) = option_map Spelled (outcome_of_fault fault)

-- the answer is the outcome; want of memory says nothing
abbrev pub IsReadBack : PlainSplit → List ℕ → Result Decoded TextFault → Type 0
IsReadBack split bytes (Ok decoded) = IsTextOutcome split bytes (Spelled (Carried (plain_port decoded.value) decoded.users))
IsReadBack split bytes (Err fault) = IfSome (text_outcome_of_fault fault) (IsTextOutcome split bytes)

-- ---- the contracts of a decoder of texts

-- the split that it was made with
abbrev pub split_of : TextDecoder → PlainSplit
split_of decoder = split_in decoder.reader.sink

-- it was fed these bytes
abbrev pub IsFed : TextDecoder → List ℕ → Type 0
IsFed decoder bytes = StandsFor DecoderStands decoder.reader bytes

-- memory ran out
abbrev pub HasNoMemory : TextDecoder → Type 0
HasNoMemory decoder = IsSpent decoder.reader
