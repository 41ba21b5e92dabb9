-- The text of the rows that are left of a trace (this project's own).
use Rattle.std.specs.Prelude.{◌≡◌, ℕ, zero, suc, ◌+◌, ◌<◌, nat_lt, Bool, true, false, if◌then◌else◌, List, [], ◌∷◌, ◌++◌, length, slice_get, Option, Some, None, Result, Ok, Err}
use Rattle.physical_stream.specs.Params.{Parameters}
use Rattle.physical_stream.specs.Signals.{Shows}
use Rattle.physical_stream.specs.Cycles.{Cycle}
use Rattle.physical_stream.specs.declared.transfer.Transfer.{Transfer}
use Rattle.cycle_trace.specs.Spelling.{row_text}

-- the stream whose row comes after the row of this one, among so many streams
abbrev pub stream_behind : (many stream : ℕ) → ℕ
stream_behind many stream = if nat_lt (stream + 1) many then stream + 1 else 0

-- the text of a row of this stream, where there is one
abbrev pub text_at : Option Parameters → Cycle → List ℕ
text_at None row = []
text_at (Some p) row = row_text p row

-- the text of rows, of which the first is of the stream of this number
abbrev pub rows_from : List Parameters → ℕ → List Cycle → List ℕ
rows_from streams stream [] = []
rows_from streams stream (row ∷ rows) = text_at (slice_get streams stream) row ++ rows_from streams (stream_behind (length streams) stream) rows

-- the stream of the row of this number
abbrev pub stream_after : (many stream : ℕ) → ℕ → ℕ
stream_after many stream zero = stream
stream_after many stream (suc i) = stream_after many (stream_behind many stream) i

-- each of these rows is of a stream, and shows only what its stream can show; the first is of the stream of this number
pub record AreShownFrom (streams : List Parameters) (stream : ℕ) (rows : List Cycle) : Type 0 where
  pub within : 0 < length rows → stream < length streams
  pub each : (i : ℕ) (p : Parameters) (row : Cycle) (t : Transfer) → slice_get rows i ≡ Some row → slice_get streams (stream_after (length streams) stream i) ≡ Some p → row.shown ≡ Some t → Shows p t

-- the first of the rows was written, and this is the stream of the next; or there is none, and nothing changed; or memory ran out
abbrev pub WritesRow : {E : Type 0} → List Parameters → (stream next : ℕ) → List Cycle → (old new : List ℕ) → Result Bool E → Type 0
WritesRow streams stream next [] old new (Ok true) = ⊥
WritesRow streams stream next (row ∷ rows) old new (Ok true) = (new ≡ old ++ text_at (slice_get streams stream) row) × (next ≡ stream_behind (length streams) stream)
WritesRow streams stream next [] old new (Ok false) = (new ≡ old) × (next ≡ stream)
WritesRow streams stream next (row ∷ rows) old new (Ok false) = ⊥
WritesRow streams stream next rows old new (Err e) = Unit {0}

-- the first of the rows has so many bytes; or there is none
abbrev pub CountsRow : List Parameters → ℕ → List Cycle → Option ℕ → Type 0
CountsRow streams stream [] (Some n) = ⊥
CountsRow streams stream (row ∷ rows) (Some n) = n ≡ length (text_at (slice_get streams stream) row)
CountsRow streams stream [] None = Unit {0}
CountsRow streams stream (row ∷ rows) None = ⊥
