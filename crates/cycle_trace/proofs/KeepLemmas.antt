-- A trace that is kept, row by row.
use Rattle.std.proofs.Common.{◌≡◌, ◌∙◌, ℕ, take, get_or, ◌+◌, ◌*◌, ◌<◌, ◌≤◌, inl, inr, ◌⊎◌, List, [], ◌∷◌, ◌++◌, length, Option, Some, None, IfSome, refl, sym, ap, subst, arith}
use Rattle.std.specs.List.{slice_get}
use Rattle.std.specs.Option.{option_map}
use Rattle.std.proofs.lemmas.Bool.{cases_lt}
use Rattle.std.proofs.lemmas.List.{length-append, length-map, length-take-le, map-append, map_more}
use Rattle.std.proofs.lemmas.Option.{slice_get_within, slice_get-get_or, slice_get-map}
use Rattle.physical_stream.specs.Params.{Parameters}
use Rattle.physical_stream.specs.Signals.{Shows}
use Rattle.physical_stream.specs.Cycles.{Cycle}
use Rattle.physical_stream.specs.declared.transfer.Transfer.{Transfer}
use Rattle.physical_stream.specs.declared.head.Header.{Header}
use Rattle.cycle_trace.specs.Trace.{TraceText, IsTrace, cycle_of, cycles_of, owed, params_of_heads, text_of}
use Rattle.cycle_trace.specs.KeepView.{IsBegun}
use Rattle.cycle_trace.specs.RowSink.{CanTake, with_row}
use Rattle.cycle_trace.specs.declared.trace.OwnRow.{OwnRow}
use Rattle.tydi_base.proofs.PlaceLemmas.{slice_get-front, slice_get-next, slice_get-there}
use Rattle.cycle_trace.proofs.RowsLemmas.{length-owed_heads}

pub IsBegun-more : (t : TraceText) (row : Cycle) → IsBegun t → CanTake t row → IsBegun (with_row t row)
IsBegun-more t row h can = record {
  few_cycles = h.few_cycles;
  streams = h.streams;
  within = omega (arith, length-append t.rows (row ∷ []), slice_get_within (owed (params_of_heads t.heads) t.cycles) (length t.rows) can.params can.turn);
  each = λ i p now shown turn here is. by_cases i p now shown turn here is (cases_lt i (length t.rows));
}
  where
    shows : (said : Option Transfer) (shown : Transfer) → said ≡ Some shown → IfSome said (Shows can.params) → Shows can.params shown
    shows None shown is h = absurd cc
    shows (Some x) shown is h = let same : x ≡ shown = cc in subst (Shows can.params) same h

    by_cases : (i : ℕ) (p : Parameters) (now : Cycle) (shown : Transfer) → slice_get (owed (params_of_heads t.heads) t.cycles) i ≡ Some p → slice_get (t.rows ++ row ∷ []) i ≡ Some now → now.shown ≡ Some shown →
        (i < length t.rows) ⊎ (length t.rows ≤ i) → Shows p shown
    by_cases i p now shown turn here is (inl less) = h.each i p now shown turn (sym (slice_get-front t.rows (row ∷ []) i less) ∙ here) is
    by_cases i p now shown turn here is (inr more) =
        let last : i ≡ length t.rows = omega (arith, slice_get_within (t.rows ++ row ∷ []) i now here, length-append t.rows (row ∷ [])) in
        let same_row : row ≡ now = let e = sym (slice_get-next t.rows row i last) ∙ here in cc in
        let same : can.params ≡ p = let e = sym can.turn ∙ ap (slice_get (owed (params_of_heads t.heads) t.cycles)) (sym last) ∙ turn in cc in
        subst (λ (q : Parameters). Shows q shown) same (shows row.shown shown (ap (λ (c : Cycle). c.shown) same_row ∙ is) can.shown)

pub IsTrace-whole : (t : TraceText) → IsBegun t → length t.rows ≡ t.cycles * length t.heads → IsTrace t
IsTrace-whole t h all = record { few_cycles = h.few_cycles; streams = h.streams; shown = record { many = all ∙ sym (length-owed_heads t); each = h.each } }

pub IsTrace-many : (t : TraceText) → IsTrace t → length t.rows ≡ t.cycles * length t.heads
IsTrace-many t whole = whole.shown.many ∙ length-owed_heads t

-- the rows that are kept, and one more
pub text_of-more : (header : Header) (rows : List OwnRow) (row : OwnRow) (t : TraceText) (now : Cycle) → text_of header rows ≡ t → cycle_of row ≡ now → text_of header (rows ++ row ∷ []) ≡ with_row t now
text_of-more header rows row t now same is =
    ap (λ (xs : List Cycle). let text : TraceText = record { cycles = header.cycles; heads = header.heads; rows = xs } in text) (map-append cycle_of rows (row ∷ []))
    ∙ ap (λ (c : Cycle). with_row (text_of header rows) c) is ∙ ap (λ (x : TraceText). with_row x now) same

pub text-many : (header : Header) (rows : List OwnRow) (t : TraceText) → text_of header rows ≡ t → IsTrace t → length rows ≡ header.cycles * length header.heads
text-many header rows t same whole = sym (length-map rows cycle_of) ∙ IsTrace-many (text_of header rows) (subst IsTrace (sym same) whole)

pub text-whole : (header : Header) (rows : List OwnRow) (t : TraceText) → text_of header rows ≡ t → IsBegun t → length rows ≡ header.cycles * length header.heads → IsTrace (text_of header rows)
text-whole header rows t same begun all = IsTrace-whole (text_of header rows) (subst IsBegun (sym same) begun) (length-map rows cycle_of ∙ all)

-- ---- a trace, row by row

-- the header and the first rows, so many
abbrev pub first_rows : Header → List OwnRow → ℕ → TraceText
first_rows header rows i = record { cycles = header.cycles; heads = header.heads; rows = cycles_of (take i rows) }

module _ (header : Header) (rows : List OwnRow) (whole : IsTrace (text_of header rows)) (i : ℕ) (within : i < length rows) (row : OwnRow) (is : row ≡ get_or rows i row) where
  shown_by : (p : Parameters) → slice_get (owed (params_of_heads header.heads) header.cycles) i ≡ Some p → (shown : Option Transfer) → row.shown ≡ shown → IfSome shown (Shows p)
  shown_by p turn None same = tt
  shown_by p turn (Some t) same =
      let here : slice_get (cycles_of rows) i ≡ Some (cycle_of row) = slice_get-map cycle_of rows i ∙ ap (option_map cycle_of) (slice_get-get_or rows i row within ∙ ap Some (sym is)) in
      whole.shown.each i p (cycle_of row) t turn here same

  pub replay_can : CanTake (first_rows header rows i) (cycle_of row)
  replay_can =
      let long : length (cycles_of (take i rows)) ≡ i = length-map (take i rows) cycle_of ∙ length-take-le i rows (omega arith) in
      let inside : i < length (owed (params_of_heads header.heads) header.cycles) = omega (arith, whole.shown.many, length-map rows cycle_of) in
      let turn = slice_get-there (owed (params_of_heads header.heads) header.cycles) i inside in
      record { params = turn.0; turn = ap (slice_get (owed (params_of_heads header.heads) header.cycles)) long ∙ turn.1; shown = shown_by turn.0 turn.1 row.shown refl }

  pub replay_next : with_row (first_rows header rows i) (cycle_of row) ≡ first_rows header rows (i + 1)
  replay_next =
      ap (λ (cycles : List Cycle). let text : TraceText = record { cycles = header.cycles; heads = header.heads; rows = cycles } in text)
      (ap (λ (x : OwnRow). cycles_of (take i rows) ++ cycle_of x ∷ []) is ∙ sym (map_more cycle_of rows i row within))
