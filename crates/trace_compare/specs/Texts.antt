-- What a comparison says of the text of a trace (this project's own).
use Rattle.std.specs.Prelude.{◌≡◌, ℕ, List, Option, Some, None, IfSome, Result, Ok, Err}
use Rattle.std.specs.Option.{option_map}
use Rattle.physical_stream.specs.declared.item.Item.{Item}
use Rattle.type_split.specs.Streams.{PlainSplit}
use Rattle.cycle_trace.specs.Faults.{fault_in}
use Rattle.cycle_trace.specs.ReaderView.{IsSpent, StandsFor}
use Rattle.cycle_trace.specs.Trace.{TraceText, streams_of}
use Rattle.cycle_trace.specs.TraceText.{trace_of}
use Rattle.cycle_trace.specs.declared.fault.TraceFault.{TraceFault}
use Rattle.port_drive.specs.Drives.{heads_of}
use Rattle.trace_decode.specs.Outcome as decode
use Rattle.trace_compare.specs.Differences.{AreDifferences}
use Rattle.trace_compare.specs.Standing.{ComparerStands, asked_of}
use Rattle.trace_compare.specs.declared.difference.Difference.{Difference}
use Rattle.trace_compare.specs.declared.fault.CompareFault.{CompareFault}
use Rattle.trace_compare.specs.declared.fault.CompareFault.TheVariants as faults
use Rattle.trace_compare.specs.declared.text_comparer.TextComparer.{TextComparer}

-- what is said of a text: its first fault, the first place at which its heads are not those of the port, or the first difference of each stream that
-- has one
pub data Comparison : Type 0 where
  Misspelled : TraceFault → Comparison
  OtherHeader : ℕ → Comparison
  Compared : List Difference → Comparison

-- what is said of a trace
abbrev pub IsComparisonOf : PlainSplit → List (List Item) → TraceText → Comparison → Type 0
IsComparisonOf split wants t (Misspelled fault) = ⊥
IsComparisonOf split wants t (OtherHeader place) = decode.DifferFirst t.heads (heads_of split) place
IsComparisonOf split wants t (Compared differences) = (t.heads ≡ heads_of split) × AreDifferences wants (streams_of t) differences

-- what is said of a text, of which these items are expected, a list for each stream. A fault of the text comes before the heads, and these before the items.
abbrev pub IsComparison : PlainSplit → List (List Item) → List ℕ → Comparison → Type 0
IsComparison split wants bytes (Misspelled fault) = trace_of bytes ≡ Err fault
IsComparison split wants bytes (OtherHeader place) = (t : TraceText) × ((trace_of bytes ≡ Ok t) × IsComparisonOf split wants t (OtherHeader place))
IsComparison split wants bytes (Compared differences) = (t : TraceText) × ((trace_of bytes ≡ Ok t) × IsComparisonOf split wants t (Compared differences))

-- what an error reports; want of memory is nothing
abbrev pub comparison_of_fault : CompareFault → Option Comparison
comparison_of_fault (faults.Misspelled fault) = option_map Misspelled (fault_in fault)
comparison_of_fault (faults.OtherHeader place) = Some (OtherHeader place)
comparison_of_fault faults.Memory = None

-- the answer for a trace; want of memory says nothing
abbrev pub IsComparedTrace : PlainSplit → List (List Item) → TraceText → Result (List Difference) CompareFault → Type 0
IsComparedTrace split wants t (Ok differences) = IsComparisonOf split wants t (Compared differences)
IsComparedTrace split wants t (Err (faults.Misspelled fault)) = ⊥
IsComparedTrace split wants t (Err (faults.OtherHeader place)) = IsComparisonOf split wants t (OtherHeader place)
IsComparedTrace split wants t (Err faults.Memory) = Unit {0}

-- the answer for a text; want of memory says nothing
abbrev pub IsComparedText : PlainSplit → List (List Item) → List ℕ → Result (List Difference) CompareFault → Type 0
IsComparedText split wants bytes (Ok differences) = IsComparison split wants bytes (Compared differences)
IsComparedText split wants bytes (Err fault) = IfSome (comparison_of_fault fault) (IsComparison split wants bytes)

-- ---- the contracts of a comparer of texts

-- the split that it was made with
abbrev pub split_of : TextComparer → PlainSplit
split_of comparer = (asked_of comparer.reader.sink).split

-- the items that are expected, a list for each stream
abbrev pub wants_of : TextComparer → List (List Item)
wants_of comparer = (asked_of comparer.reader.sink).wants

-- it was fed these bytes
abbrev pub IsFed : TextComparer → List ℕ → Type 0
IsFed comparer bytes = StandsFor ComparerStands comparer.reader bytes

-- memory ran out
abbrev pub HasNoMemory : TextComparer → Type 0
HasNoMemory comparer = IsSpent comparer.reader
