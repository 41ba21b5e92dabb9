-- The outcome of a text that a decoder was fed.
use Rattle.std.proofs.Common.{◌≡◌, ℕ, List, Option, Some, None, IfSome, Ok, Err, MatchOption}
use Rattle.std.specs.Option.{option_map}
use Rattle.type_split.specs.Streams.{PlainSplit}
use Rattle.cycle_trace.specs.Beginnings.{IsFault}
use Rattle.cycle_trace.specs.Faults.{fault_in}
use Rattle.cycle_trace.specs.Trace.{TraceText}
use Rattle.cycle_trace.specs.TraceText.{trace_of}
use Rattle.cycle_trace.specs.declared.fault.TraceFault.{TraceFault}
use Rattle.trace_decode.specs.Outcome.{IsOutcome, Outcome, outcome_of_fault}
use Rattle.trace_decode.specs.Texts.{IsTextOutcome, Misspelled, Spelled}
use Rattle.trace_decode.specs.declared.fault.DecodeFault.{DecodeFault}

-- the error of a text
pub misspelled : (split : PlainSplit) (bytes : List ℕ) (fault : TraceFault) → IsFault (trace_of bytes) fault → IfSome (option_map Misspelled (fault_in fault)) (IsTextOutcome split bytes)
misspelled split bytes fault is = by_fault (fault_in fault) is
  where
    by_fault : (told : Option TraceFault) → MatchOption told (Unit {0}) (λ f. trace_of bytes ≡ Err f) → IfSome (option_map Misspelled told) (IsTextOutcome split bytes)
    by_fault None h = tt
    by_fault (Some f) h = h

-- the error of the trace that a text spells
pub valueless : (split : PlainSplit) (bytes : List ℕ) (t : TraceText) (fault : DecodeFault) → trace_of bytes ≡ Ok t → IfSome (outcome_of_fault fault) (IsOutcome split t)
    → IfSome (option_map Spelled (outcome_of_fault fault)) (IsTextOutcome split bytes)
valueless split bytes t fault read is = by_outcome (outcome_of_fault fault) is
  where
    by_outcome : (told : Option Outcome) → IfSome told (IsOutcome split t) → IfSome (option_map Spelled told) (IsTextOutcome split bytes)
    by_outcome None h = tt
    by_outcome (Some outcome) h = (t, (read, h))
