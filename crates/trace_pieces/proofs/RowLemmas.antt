-- The rows that are left of a trace, one by one.
use Rattle.std.proofs.Common.{◌≡◌, ℕ, zero, suc, ◌+◌, ◌<◌, ◌≤◌, nat_lt, Bool, true, false, if◌then◌else◌, List, [], ◌∷◌, ◌++◌, length, Option, Some, None, IfSome, slice_get, slice_index_or, min, length-append, append_assoc, Ok, refl, sym, ap, ◌∙◌, subst, arith}
use Rattle.std.proofs.lemmas.Bool.Decides.{nat_tests}
use Rattle.physical_stream.specs.Params.{Parameters}
use Rattle.physical_stream.specs.Signals.{Shows}
use Rattle.physical_stream.specs.Cycles.{Cycle, cycle_in}
use Rattle.physical_stream.specs.declared.row.Row.{Row}
use Rattle.physical_stream.specs.declared.transfer.Transfer.{Transfer}
use Rattle.handshake.specs.Rows.{FirstRow, rows_behind}
use Rattle.std.proofs.lemmas.List.{append-nil}
use Rattle.cycle_trace.specs.Spelling.{row_text}
use Rattle.trace_pieces.specs.Rows.{AreShownFrom, CountsRow, WritesRow, rows_from, stream_behind, text_at}

pub behind-within : (many stream : ℕ) → stream < many → stream_behind many stream < many
behind-within many stream lt = by_test (nat_lt (stream + 1) many) refl
  where
    by_test : (b : Bool) → nat_lt (stream + 1) many ≡ b → (if b then stream + 1 else 0) < many
    by_test true is = grind (arith, nat_tests)
    by_test false is = omega (arith, lt)

get-none : (i : ℕ) (row : Cycle) → ◌≡◌ {A = Option Cycle} (slice_get [] i) (Some row) → ⊥
get-none zero row e = cc
get-none (suc i) row e = cc

pub AreShownFrom-behind : (streams : List Parameters) (stream : ℕ) (rows new : List Cycle) → new ≡ rows_behind rows → AreShownFrom streams stream rows → AreShownFrom streams (stream_behind (length streams) stream) new
AreShownFrom-behind streams stream [] new is s = subst (λ (l : List Cycle). AreShownFrom streams (stream_behind (length streams) stream) l) (sym is)
    (record { within = λ some. absurd (omega (arith, some)); each = λ i p r t got at shown. absurd (get-none i r got) })
AreShownFrom-behind streams stream (row ∷ rows) new is s = subst (λ (l : List Cycle). AreShownFrom streams (stream_behind (length streams) stream) l) (sym is)
    (record { within = λ some. behind-within (length streams) stream (s.within (omega arith)); each = λ i p r t got at shown. s.each (suc i) p r t got at shown })

no-first : (given : Row) → FirstRow [] (Some given) → ⊥
no-first given first = let e : ◌≡◌ {A = Option Row} (Some given) None = first in cc

-- a row that is given is of one of the streams
pub first-within : (streams : List Parameters) (stream : ℕ) (rows : List Cycle) (given : Row) → AreShownFrom streams stream rows → FirstRow rows (Some given) → stream < length streams
first-within streams stream [] given s first = absurd (no-first given first)
first-within streams stream (row ∷ rows) given s first = s.within (omega arith)

-- the row that is given first can be shown
pub first-shown : (streams : List Parameters) (stream : ℕ) (rows : List Cycle) (p : Parameters) (given : Row) → AreShownFrom streams stream rows → slice_get streams stream ≡ Some p → FirstRow rows (Some given) →
    IfSome (cycle_in given).shown (Shows p)
first-shown streams stream [] p given s at first = cc
first-shown streams stream (row ∷ rows) p given s at first = subst (λ (c : Cycle). IfSome c.shown (Shows p)) (sym first) (by_shown row.shown refl)
  where
    by_shown : (shown : Option Transfer) → row.shown ≡ shown → IfSome shown (Shows p)
    by_shown None is = tt
    by_shown (Some t) is = s.each zero p row t refl at is

index_or-get : {A : Type 0} (xs : List A) (i : ℕ) (d : A) → i < length xs → slice_get xs i ≡ Some (slice_index_or xs i d)
index_or-get [] i d lt = absurd (omega (arith, lt))
index_or-get (x ∷ xs) zero d lt = refl
index_or-get (x ∷ xs) (suc i) d lt = index_or-get xs i d (omega (arith, lt))

-- the stream that the code reads at an index
pub at-index : (streams : List Parameters) (stream : ℕ) (p : Parameters) → stream < length streams → p ≡ slice_index_or streams stream p → slice_get streams stream ≡ Some p
at-index streams stream p lt is = index_or-get streams stream p lt ∙ ap Some (sym is)

pub AreShownFrom-next : (streams : List Parameters) (stream next : ℕ) (rows new : List Cycle) → next ≡ stream_behind (length streams) stream → new ≡ rows_behind rows → AreShownFrom streams stream rows → AreShownFrom streams next new
AreShownFrom-next streams stream next rows new is behind s = subst (λ (n : ℕ). AreShownFrom streams n new) (sym is) (AreShownFrom-behind streams stream rows new behind s)

pub CountsRow-some : (streams : List Parameters) (stream : ℕ) (rows : List Cycle) (p : Parameters) (given : Row) (n : ℕ) → slice_get streams stream ≡ Some p → FirstRow rows (Some given) →
    n ≡ length (row_text p (cycle_in given)) → CountsRow streams stream rows (Some n)
CountsRow-some streams stream [] p given n at first is = no-first given first
CountsRow-some streams stream (row ∷ rows) p given n at first is =
    is ∙ ap (λ (c : Cycle). length (row_text p c)) first ∙ sym (ap (λ (o : Option Parameters). length (text_at o row)) at)

pub WritesRow-ok : (E : Type 0) (streams : List Parameters) (stream next : ℕ) (rows : List Cycle) (p : Parameters) (given : Row) (old new : List ℕ) → slice_get streams stream ≡ Some p → FirstRow rows (Some given) →
    next ≡ stream_behind (length streams) stream → new ≡ old ++ row_text p (cycle_in given) → WritesRow {E = E} streams stream next rows old new (Ok true)
WritesRow-ok E streams stream next [] p given old new at first is written = no-first given first
WritesRow-ok E streams stream next (row ∷ rows) p given old new at first is written = (
  written ∙ ap (λ (c : Cycle). old ++ row_text p c) first ∙ sym (ap (λ (o : Option Parameters). old ++ text_at o row) at),
  is,
)

-- ---- row after row

pub CountsRow-length : (streams : List Parameters) (stream : ℕ) (rows : List Cycle) (n : ℕ) → CountsRow streams stream rows (Some n) →
    length (rows_from streams stream rows) ≡ n + length (rows_from streams (stream_behind (length streams) stream) (rows_behind rows))
CountsRow-length streams stream [] n counts = absurd counts
CountsRow-length streams stream (row ∷ rows) n counts =
    length-append (text_at (slice_get streams stream) row) (rows_from streams (stream_behind (length streams) stream) rows)
    ∙ ap (λ (k : ℕ). k + length (rows_from streams (stream_behind (length streams) stream) rows)) (sym counts)

pub CountsRow-fewer : (streams : List Parameters) (stream : ℕ) (rows : List Cycle) (n : ℕ) → CountsRow streams stream rows (Some n) → length (rows_behind rows) < length rows
CountsRow-fewer streams stream [] n counts = absurd counts
CountsRow-fewer streams stream (row ∷ rows) n counts = omega arith

pub CountsRow-none : (streams : List Parameters) (stream : ℕ) (rows : List Cycle) → CountsRow streams stream rows None → rows ≡ []
CountsRow-none streams stream [] counts = refl
CountsRow-none streams stream (row ∷ rows) counts = absurd counts

pub WritesRow-fewer : (E : Type 0) (streams : List Parameters) (stream next : ℕ) (rows : List Cycle) (old new : List ℕ) → WritesRow {E = E} streams stream next rows old new (Ok true) → length (rows_behind rows) < length rows
WritesRow-fewer E streams stream next [] old new writes = absurd writes
WritesRow-fewer E streams stream next (row ∷ rows) old new writes = omega arith

pub WritesRow-text : (E : Type 0) (streams : List Parameters) (stream next : ℕ) (rows behind : List Cycle) (old new : List ℕ) → behind ≡ rows_behind rows → WritesRow {E = E} streams stream next rows old new (Ok true) →
    old ++ rows_from streams stream rows ≡ new ++ rows_from streams next behind
WritesRow-text E streams stream next [] behind old new is writes = absurd writes
WritesRow-text E streams stream next (row ∷ rows) behind old new is writes =
    sym (append_assoc old (text_at (slice_get streams stream) row) (rows_from streams (stream_behind (length streams) stream) rows))
    ∙ ap (λ (l : List ℕ). l ++ rows_from streams (stream_behind (length streams) stream) rows) (sym writes.0)
    ∙ ap (λ (n : ℕ). new ++ rows_from streams n rows) (sym writes.1)
    ∙ ap (λ (l : List Cycle). new ++ rows_from streams next l) (sym is)

pub WritesRow-none : (E : Type 0) (streams : List Parameters) (stream next : ℕ) (rows : List Cycle) (old new : List ℕ) → WritesRow {E = E} streams stream next rows old new (Ok false) → (rows ≡ []) × ((new ≡ old) × (next ≡ stream))
WritesRow-none E streams stream next [] old new writes = (refl, writes)
WritesRow-none E streams stream next (row ∷ rows) old new writes = absurd writes

-- at the end of the rows, all of the text is in the piece
pub ended : (E : Type 0) (streams : List Parameters) (stream next : ℕ) (rows behind : List Cycle) (old new text : List ℕ) → behind ≡ rows_behind rows → text ≡ old ++ rows_from streams stream rows →
    WritesRow {E = E} streams stream next rows old new (Ok false) → (text ≡ new ++ rows_from streams next behind) × (0 < length text → 0 < length new)
ended E streams stream next [] behind old new text is made writes =
    let whole : text ≡ new = made ∙ append-nil old ∙ sym writes.0 in
    (whole ∙ sym (append-nil new) ∙ ap (λ (l : List Cycle). new ++ rows_from streams next l) (sym is), λ some. omega (arith, some, ap length whole))
ended E streams stream next (row ∷ rows) behind old new text is made writes = absurd writes

-- a row more in a sum that stops at the most
pub counted-more : (all bytes more left rest new most : ℕ) → min all most ≡ min (bytes + left) most → left ≡ more + rest → new ≡ min (bytes + more) most → min all most ≡ min (new + rest) most
counted-more all bytes more left rest new most so is new_is = omega (arith, so, is, new_is)

pub CountsRow-ends : (streams : List Parameters) (stream : ℕ) (rows : List Cycle) (r : Option ℕ) → ((n : ℕ) → r ≡ Some n → ⊥) → CountsRow streams stream rows r → rows ≡ []
CountsRow-ends streams stream rows (Some n) none counts = absurd (none n refl)
CountsRow-ends streams stream rows None none counts = CountsRow-none streams stream rows counts

pub counted-all : (all bytes most : ℕ) (streams : List Parameters) (stream : ℕ) (rows : List Cycle) → rows ≡ [] → bytes ≤ most → min all most ≡ min (bytes + length (rows_from streams stream rows)) most → bytes ≡ min all most
counted-all all bytes most streams stream rows none few so =
    let e : length (rows_from streams stream rows) ≡ 0 = ap (λ (l : List Cycle). length (rows_from streams stream l)) none in
    omega (arith, e, few, so)

pub counted-row : (streams : List Parameters) (stream next : ℕ) (rows behind : List Cycle) (all bytes more new most : ℕ) → next ≡ stream_behind (length streams) stream → behind ≡ rows_behind rows → CountsRow streams stream rows (Some more) →
    min all most ≡ min (bytes + length (rows_from streams stream rows)) most → new ≡ min (bytes + more) most → min all most ≡ min (new + length (rows_from streams next behind)) most
counted-row streams stream next rows behind all bytes more new most is back counts so new_is =
    counted-more all bytes more (length (rows_from streams stream rows)) (length (rows_from streams next behind)) new most so
    (CountsRow-length streams stream rows more counts
    ∙ ap (λ (n : ℕ). more + length (rows_from streams n (rows_behind rows))) (sym is)
    ∙ ap (λ (l : List Cycle). more + length (rows_from streams next l)) (sym back)) new_is
