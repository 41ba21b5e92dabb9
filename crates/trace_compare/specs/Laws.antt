-- Laws of comparisons, for all texts (this project's own).
use Rattle.std.specs.Prelude.{◌≡◌, ◌↔◌, ℕ, List, [], length, Ok}
use Rattle.physical_stream.specs.Cycles.{StreamTrace}
use Rattle.physical_stream.specs.declared.item.Item.{Item}
use Rattle.port_drive.specs.Drives.{heads_of}
use Rattle.port_drive.specs.Laws.{done_on}
use Rattle.cycle_trace.specs.Trace.{TraceText, streams_of}
use Rattle.cycle_trace.specs.TraceText.{trace_of}
use Rattle.type_split.specs.Streams.{PlainSplit}
use Rattle.trace_compare.specs.Differences.{AreDifferences}
use Rattle.trace_compare.specs.Standing.{OneForEach}
use Rattle.trace_compare.specs.Texts.{Compared, Comparison, IsComparison}
use Rattle.trace_compare.specs.declared.difference.Difference.{Difference}

-- at most one thing is said of a text
abbrev pub OneComparison : Type 0
OneComparison = (split : PlainSplit) (wants : List (List Item)) → OneForEach split wants → (bytes : List ℕ) (one other : Comparison)
    → IsComparison split wants bytes one → IsComparison split wants bytes other → one ≡ other

-- a text is not without a thing that is said of it
abbrev pub SomeComparison : Type 0
SomeComparison = (split : PlainSplit) (wants : List (List Item)) → OneForEach split wants → (bytes : List ℕ)
    → ((said : Comparison) → IsComparison split wants bytes said → ⊥) → ⊥

-- there are no differences exactly where the items done are those that are expected
abbrev pub NoneWhereSame : Type 0
NoneWhereSame = (wants : List (List Item)) (streams : List StreamTrace) → length wants ≡ length streams → (differences : List Difference)
    → AreDifferences wants streams differences → (differences ≡ []) ↔ (done_on streams ≡ wants)

-- the same of a text that spells a trace of the port: it is said that there are no differences exactly where the items done are those that are expected
abbrev pub NoneSaidWhereSame : Type 0
NoneSaidWhereSame = (split : PlainSplit) (wants : List (List Item)) → OneForEach split wants → (bytes : List ℕ) (t : TraceText) → trace_of bytes ≡ Ok t
    → t.heads ≡ heads_of split → IsComparison split wants bytes (Compared []) ↔ (done_on (streams_of t) ≡ wants)
