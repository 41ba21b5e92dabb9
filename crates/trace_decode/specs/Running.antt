-- One row more, as the code takes it. It serves the decoder, and no public clause. This project's own.
use Rattle.std.specs.Prelude.{◌≡◌, ℕ, ◌/◌, ◌%◌, Bool, true, false, List, [], ◌∷◌, ◌++◌, length, Option, Some, None, slice_get, Result, IfOk}
use Rattle.physical_stream.specs.Cycles.{Cycle}
use Rattle.physical_stream.specs.declared.rule.Rule.TheVariants.{Tag}
use Rattle.type_split.specs.Streams.{PlainSplit}
use Rattle.type_split.specs.declared.split.Phys.{Phys}
use Rattle.cycle_trace.specs.declared.surveying.outcome.FoundOffence.{FoundOffence}
use Rattle.trace_decode.specs.Keeping.{CanShow, HasDims, KeepsStream, are_named_in}
use Rattle.trace_decode.specs.Tags.{element_at}
use Rattle.trace_decode.specs.declared.stream_kept.StreamKept.{StreamKept}

-- nothing was taken yet of each of these streams
pub record AreFresh (streams : List Phys) (kept : List StreamKept) : Type 0 where
  pub many : length kept ≡ length streams
  pub each : (i : ℕ) (phys : Phys) (one : StreamKept) → slice_get streams i ≡ Some phys → slice_get kept i ≡ Some one → KeepsStream (record { params = phys.params; cycles = [] }) one

-- the stream of this number can take a row
pub record CanTakeRow (split : PlainSplit) (stream : ℕ) (kept : List StreamKept) (row : Cycle) : Type 0 where
  pub phys : Phys
  pub there : slice_get split.streams stream ≡ Some phys
  pub one : StreamKept
  pub found : slice_get kept stream ≡ Some one
  pub dims : HasDims phys.params.dims one.builder
  pub shown : CanShow phys.params row

-- the state kept of the stream of this number has one cycle more, and those of the others are as they were
pub record TakesRowOf (split : PlainSplit) (stream : ℕ) (row : Cycle) (old new : List StreamKept) (named : Bool) : Type 0 where
  pub many : length new ≡ length old
  pub others : (i : ℕ) → (i ≡ stream → ⊥) → slice_get new i ≡ slice_get old i
  pub kept : (phys : Phys) (one next : StreamKept) (cycles : List Cycle) → slice_get split.streams stream ≡ Some phys → slice_get old stream ≡ Some one
      → slice_get new stream ≡ Some next → KeepsStream (record { params = phys.params; cycles = cycles }) one → KeepsStream (record { params = phys.params; cycles = cycles ++ row ∷ [] }) next
  pub is_named : (phys : Phys) → slice_get split.streams stream ≡ Some phys → named ≡ are_named_in (element_at split stream) phys.params row

abbrev pub TakesRow : {E : Type 0} → PlainSplit → ℕ → Cycle → (old new : List StreamKept) → Result Bool E → Type 0
TakesRow split stream row old new result = IfOk result (TakesRowOf split stream row old new)

-- the first violation of the rule on tags: that of the rows before, or that of the row of this number, where it has one. The rows are those of so many streams.
abbrev pub IsTagWith : Option FoundOffence → Bool → (row streams : ℕ) → Option FoundOffence → Type 0
IsTagWith None true row streams result = result ≡ None
IsTagWith None false row streams result = result ≡ Some (record { cycle = row / streams; stream = row % streams; rule = Tag })
IsTagWith (Some found) named row streams result = result ≡ Some found
