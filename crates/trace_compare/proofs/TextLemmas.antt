-- What is said of a text that a comparer was fed.
use Rattle.std.proofs.Common.{◌≡◌, ℕ, List, Option, Some, None, IfSome, Result, Ok, Err, MatchOption}
use Rattle.std.specs.Option.{option_map}
use Rattle.physical_stream.specs.declared.item.Item.{Item}
use Rattle.type_split.specs.Streams.{PlainSplit}
use Rattle.cycle_trace.specs.Beginnings.{IsFault}
use Rattle.cycle_trace.specs.Faults.{fault_in}
use Rattle.cycle_trace.specs.Trace.{TraceText}
use Rattle.cycle_trace.specs.TraceText.{trace_of}
use Rattle.cycle_trace.specs.declared.fault.TraceFault.{TraceFault}
use Rattle.trace_compare.specs.Texts.{IsComparedText, IsComparedTrace, IsComparison, Misspelled}
use Rattle.trace_compare.specs.declared.difference.Difference.{Difference}
use Rattle.trace_compare.specs.declared.fault.CompareFault.{CompareFault}
use Rattle.trace_compare.specs.declared.fault.CompareFault.TheVariants as faults

-- the error of a text
pub misspelled : (split : PlainSplit) (wants : List (List Item)) (bytes : List ℕ) (fault : TraceFault) → IsFault (trace_of bytes) fault
    → IfSome (option_map Misspelled (fault_in fault)) (IsComparison split wants bytes)
misspelled split wants bytes fault is = by_fault (fault_in fault) is
  where
    by_fault : (told : Option TraceFault) → MatchOption told (Unit {0}) (λ f. trace_of bytes ≡ Err f) → IfSome (option_map Misspelled told) (IsComparison split wants bytes)
    by_fault None h = tt
    by_fault (Some f) h = h

-- what is said of the trace that a text spells
pub spelled : (split : PlainSplit) (wants : List (List Item)) (bytes : List ℕ) (t : TraceText) (result : Result (List Difference) CompareFault) → trace_of bytes ≡ Ok t
    → IsComparedTrace split wants t result → IsComparedText split wants bytes result
spelled split wants bytes t (Ok differences) read is = (t, (read, is))
spelled split wants bytes t (Err (faults.Misspelled fault)) read is = absurd is
spelled split wants bytes t (Err (faults.OtherHeader place)) read is = (t, (read, is))
spelled split wants bytes t (Err faults.Memory) read is = tt
