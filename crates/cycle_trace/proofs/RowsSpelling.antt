-- The rows of a trace text: each spelling is read, and each text that is read is a spelling.
use Rattle.std.proofs.Common.{◌≡◌, ℕ, zero, suc, ◌<◌, ◌≤◌, Bool, true, nat_le, List, [], ◌∷◌, ◌++◌, length, Some, Result, Ok, append_assoc, refl, sym, ap, ◌∙◌, arith}
use Rattle.std.specs.List.{list_all, join_with_byte, slice_get}
use Rattle.std.proofs.lemmas.Bool.Decides.{nat_tests}
use Rattle.std.proofs.lemmas.List.Folds.{list_all-append}
use Rattle.tydi_base.specs.Pieces.{lines_of}
use Rattle.tydi_base.proofs.ReadingLaws.{bind_ok, ok_is}
use Rattle.physical_stream.specs.Params.{Parameters}
use Rattle.physical_stream.specs.Signals.{Shows}
use Rattle.physical_stream.specs.Cycles.{Cycle}
use Rattle.physical_stream.specs.declared.transfer.Transfer.{Transfer}
use Rattle.cycle_trace.specs.declared.fault.TraceFault.{TraceFault}
use Rattle.cycle_trace.specs.Trace.{AreShown, owed}
use Rattle.cycle_trace.specs.RowText.{row_at}
use Rattle.cycle_trace.specs.Spelling.{row_line, rows_text}
use Rattle.cycle_trace.specs.TraceText.{rows_from}
use Rattle.tydi_base.proofs.PlainWords.{and_parts, both, lines_of-plain, some_line}
use Rattle.cycle_trace.proofs.RowsLemmas.{rows_from-cons}
use Rattle.cycle_trace.proofs.RowSpelling.{row_words, row_words-plain, row_at-spelled, row_at-some}

-- no stream has more lanes than a stream may have
abbrev pub have_lanes : List Parameters → Bool
have_lanes streams = list_all (λ p. nat_le p.lanes 128) streams

pub have_lanes-first : (p : Parameters) (streams : List Parameters) → have_lanes (p ∷ streams) ≡ true → p.lanes ≤ 128
have_lanes-first p streams e = let few = (and_parts (nat_le p.lanes 128) (have_lanes streams) e).0 in grind (arith, nat_tests)

pub have_lanes-owed : (streams : List Parameters) (cycles : ℕ) → have_lanes streams ≡ true → have_lanes (owed streams cycles) ≡ true
have_lanes-owed streams zero e = refl
have_lanes-owed streams (suc cycles) e =
    list_all-append (λ p. nat_le p.lanes 128) streams (owed streams cycles) ∙ both (have_lanes streams) (have_lanes (owed streams cycles)) e (have_lanes-owed streams cycles e)

-- ---- rows that are shown

pub AreShown-first : (p : Parameters) (streams : List Parameters) (cycle : Cycle) (cycles : List Cycle) → AreShown (p ∷ streams) (cycle ∷ cycles) → (t : Transfer) → cycle.shown ≡ Some t → Shows p t
AreShown-first p streams cycle cycles h t is = h.each zero p cycle t refl refl is

AreShown-rest : (p : Parameters) (streams : List Parameters) (cycle : Cycle) (cycles : List Cycle) → AreShown (p ∷ streams) (cycle ∷ cycles) → AreShown streams cycles
AreShown-rest p streams cycle cycles h = record {
  many = let many = h.many in omega arith;
  each = λ i q row t stream here is. h.each (suc i) q row t stream here is;
}

AreShown-none : AreShown [] []
AreShown-none = record { many = refl; each = λ i p row t stream here is. absurd cc }

each_more : (p : Parameters) (streams : List Parameters) (cycle : Cycle) (cycles : List Cycle) → ((t : Transfer) → cycle.shown ≡ Some t → Shows p t) → AreShown streams cycles
    → (i : ℕ) (q : Parameters) (row : Cycle) (t : Transfer) → slice_get (p ∷ streams) i ≡ Some q → slice_get (cycle ∷ cycles) i ≡ Some row → row.shown ≡ Some t → Shows q t
each_more p streams cycle cycles first rest zero q row t stream here is =
    let same_stream : p ≡ q = cc in
    let same_row : cycle ≡ row = cc in
    rw (← same_stream) (first t (ap (λ (c : Cycle). c.shown) same_row ∙ is))
each_more p streams cycle cycles first rest (suc i) q row t stream here is = rest.each i q row t stream here is

AreShown-more : (p : Parameters) (streams : List Parameters) (cycle : Cycle) (cycles : List Cycle) → ((t : Transfer) → cycle.shown ≡ Some t → Shows p t) → AreShown streams cycles → AreShown (p ∷ streams) (cycle ∷ cycles)
AreShown-more p streams cycle cycles first rest = record { many = let many = rest.many in omega arith; each = each_more p streams cycle cycles first rest }

-- ---- all rows

pub rows_text-lines : (p : Parameters) (streams : List Parameters) (cycle : Cycle) (cycles : List Cycle) → p.lanes ≤ 128 → ((t : Transfer) → cycle.shown ≡ Some t → Shows p t)
    → lines_of (rows_text (p ∷ streams) (cycle ∷ cycles)) ≡ row_line p cycle ∷ lines_of (rows_text streams cycles)
rows_text-lines p streams cycle cycles few first =
    ap lines_of (append_assoc (row_line p cycle) (10 ∷ []) (rows_text streams cycles))
    ∙ lines_of-plain (row_words p cycle) (rows_text streams cycles) (row_words-plain p cycle few first)

pub rows_from-spelled : (want got number : ℕ) (streams : List Parameters) (cycles : List Cycle) → have_lanes streams ≡ true → AreShown streams cycles
    → rows_from want got number streams (lines_of (rows_text streams cycles)) ≡ Ok cycles
rows_from-spelled want got number [] [] lanes shown = refl
rows_from-spelled want got number [] (cycle ∷ cycles) lanes shown = absurd (let many = shown.many in omega arith)
rows_from-spelled want got number (p ∷ streams) [] lanes shown = absurd (let many = shown.many in omega arith)
rows_from-spelled want got number (p ∷ streams) (cycle ∷ cycles) lanes shown =
    let parts = and_parts (nat_le p.lanes 128) (have_lanes streams) lanes in
    let few = have_lanes-first p streams lanes in
    let first = AreShown-first p streams cycle cycles shown in
    let row = row_at-spelled number p cycle few first in
    let rest = rows_from-spelled want (suc got) (suc number) streams cycles parts.1 (AreShown-rest p streams cycle cycles shown) in
    let lines = lines_of (rows_text streams cycles) in
    ap (rows_from want got number (p ∷ streams)) (rows_text-lines p streams cycle cycles few first)
    ∙ rows_from-cons want got number p streams (row_line p cycle) lines (some_line (rows_text streams cycles))
    ∙ rw (row, rest) refl

-- the cycles that were read of the lines of rows
pub record RowsRead (streams : List Parameters) (lines : List (List ℕ)) (cycles : List Cycle) : Type 0 where
  pub spelled : join_with_byte 10 lines ≡ rows_text streams cycles
  pub shown : AreShown streams cycles

no_row : (lines : List (List ℕ)) (cycles : List Cycle) → ◌≡◌ {A = Result (List Cycle) TraceFault} (Ok []) (Ok cycles) → join_with_byte 10 lines ≡ [] → RowsRead [] lines cycles
no_row lines cycles e empty = let same = ok_is [] cycles e in rw (← same) (record { spelled = empty; shown = AreShown-none })

pub rows_from-some : (want got number : ℕ) (streams : List Parameters) (lines : List (List ℕ)) (cycles : List Cycle) → 0 < length lines
    → rows_from want got number streams lines ≡ Ok cycles → RowsRead streams lines cycles
rows_from-some want got number [] [] cycles some e = absurd (omega arith)
rows_from-some want got number [] ([] ∷ []) cycles some e = no_row ([] ∷ []) cycles e refl
rows_from-some want got number [] ((byte ∷ cut) ∷ []) cycles some e = absurd cc
rows_from-some want got number [] ([] ∷ next ∷ lines) cycles some e = absurd cc
rows_from-some want got number [] ((byte ∷ line) ∷ next ∷ lines) cycles some e = absurd cc
rows_from-some want got number (p ∷ streams) [] cycles some e = absurd cc
rows_from-some want got number (p ∷ streams) ([] ∷ []) cycles some e = absurd cc
rows_from-some want got number (p ∷ streams) ((byte ∷ cut) ∷ []) cycles some e = absurd cc
rows_from-some want got number (p ∷ streams) (line ∷ next ∷ lines) cycles some e =
    let read = sym (rows_from-cons want got number p streams line (next ∷ lines) (omega arith)) ∙ e in
    let row = bind_ok (row_at number p line) _ cycles read in
    let rest = bind_ok (rows_from want (suc got) (suc number) streams (next ∷ lines)) _ cycles row.2 in
    let same = ok_is (row.0 ∷ rest.0) cycles rest.2 in
    let first = row_at-some number p line row.0 row.1 in
    let later = rows_from-some want (suc got) (suc number) streams (next ∷ lines) rest.0 (omega arith) rest.1 in
    rw (← same) (record {
      spelled = joined line (row_line p row.0) (join_with_byte 10 (next ∷ lines)) (rows_text streams rest.0) first.spelled later.spelled;
      shown = AreShown-more p streams row.0 rest.0 first.shows later.shown;
    })
  where
    joined : (a b c d : List ℕ) → a ≡ b → c ≡ d → a ++ 10 ∷ c ≡ (b ++ 10 ∷ []) ++ d
    joined a b c d e f = rw (e, f) (sym (append_assoc b (10 ∷ []) d))
