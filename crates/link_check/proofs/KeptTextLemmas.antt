-- The text of a trace, one row more.
use Rattle.std.proofs.Common.{◌≡◌, ◌∙◌, ◌==◌, ℕ, ◌+◌, ◌<◌, ◌≤◌, Bool, true, false, nat_lt, ltb, List, [], ◌∷◌, ◌++◌, length, get_or, Some, IfSome, refl, sym, ap, subst, arith, append_assoc, if◌then◌else◌}
use Rattle.std.specs.List.{slice_get}
use Rattle.std.proofs.lemmas.Bool.{ltb-true, ltb-false}
use Rattle.std.proofs.lemmas.List.{length-append}
use Rattle.std.proofs.lemmas.Option.{slice_get_read}
use Rattle.physical_stream.specs.Cycles.{Cycle}
use Rattle.physical_stream.specs.Params.{Parameters}
use Rattle.physical_stream.specs.Signals.{Shows}
use Rattle.physical_stream.specs.declared.head.Head.{Head}
use Rattle.physical_stream.specs.declared.head.Header.{Header}
use Rattle.cycle_trace.specs.RowSink.{CanTake, begun_by, with_row}
use Rattle.cycle_trace.specs.Spelling.{header_text, row_text, rows_text}
use Rattle.cycle_trace.specs.Surveying.{IsNextRow}
use Rattle.cycle_trace.specs.Trace.{TraceText, owed, params_of_heads}
use Rattle.cycle_trace.specs.Version.{version_of}
use Rattle.cycle_trace.proofs.SurveyorLemmas.{HasTurn, has_turn, next_row}
use Rattle.link_check.specs.KeptTexts.{IsKept, TextStands, most_kept, text_so_far}
use Rattle.link_check.specs.declared.kept_text.KeptText.{KeptText}
use Rattle.link_check.proofs.CarrierLemmas.{some_inside}

-- ---- texts

rows_text-none : (streams : List Parameters) → rows_text streams [] ≡ []
rows_text-none [] = refl
rows_text-none (p ∷ streams) = refl

rows_text-more : (streams : List Parameters) (rows : List Cycle) (row : Cycle) (p : Parameters) → slice_get streams (length rows) ≡ Some p → rows_text streams (rows ++ row ∷ []) ≡ rows_text streams rows ++ row_text p row
rows_text-more [] rows row p turn = absurd cc
rows_text-more (q ∷ streams) [] row p turn =
    let same : q ≡ p = cc in ap (λ l. row_text q row ++ l) (rows_text-none streams) ∙ nil (row_text q row) ∙ ap (λ (x : Parameters). row_text x row) same
  where
    nil : (l : List ℕ) → l ++ [] ≡ l
    nil [] = refl
    nil (x ∷ l) = ap (λ m. x ∷ m) (nil l)
rows_text-more (q ∷ streams) (first ∷ rows) row p turn =
    ap (λ l. row_text q first ++ l) (rows_text-more streams rows row p turn) ∙ sym (append_assoc (row_text q first) (rows_text streams rows) (row_text p row))

-- the text of a header and no rows
pub text-begun : (header : Header) → text_so_far (begun_by header) ≡ header_text (version_of header.heads) header.cycles header.heads
text-begun header = ap (λ l. header_text (version_of header.heads) header.cycles header.heads ++ l) (rows_text-none (owed (params_of_heads header.heads) header.cycles)) ∙ nil (header_text (version_of header.heads) header.cycles header.heads)
  where
    nil : (l : List ℕ) → l ++ [] ≡ l
    nil [] = refl
    nil (x ∷ l) = ap (λ m. x ∷ m) (nil l)

-- a text of this length is kept, or it is too long
pub kept-first : (text wanted : List ℕ) (n : ℕ) → text ≡ wanted → n ≡ length text → IsKept (nat_lt 67108864 n) text wanted
kept-first text wanted n same long = by (ltb 67108864 n) refl
  where
    by : (b : Bool) → ltb 67108864 n ≡ b → IsKept b text wanted
    by true over = omega (arith, ltb-true 67108864 n over, long, ap (λ (l : List ℕ). length l) same)
    by false within = (same, omega (arith, ltb-false 67108864 n within, long, ap (λ (l : List ℕ). length l) same))

pub got : (kept : KeptText) (heads : List Head) (head : Head) → heads ≡ kept.heads → kept.stream < length heads → head ≡ get_or heads kept.stream head → slice_get kept.heads kept.stream ≡ Some head
got kept heads head same within is = ap (λ (l : List Head). slice_get l kept.stream) (sym same) ∙ slice_get_read heads (length heads) kept.stream head refl within is

-- the text that is kept now
pub IsKept-over : (over : Bool) (kept text : List ℕ) → over ≡ true → most_kept < length text → IsKept over kept text
IsKept-over over kept text is long = subst (λ b. IsKept b kept text) (sym is) long

pub IsKept-within : (over : Bool) (kept text : List ℕ) (n : ℕ) → over ≡ false → n ≡ length kept → n ≤ 67108864 → kept ≡ text → IsKept over kept text
IsKept-within over kept text n is long few same = subst (λ b. IsKept b kept text) (sym is) (same, omega (arith, few, long, ap (λ (l : List ℕ). length l) same))

pub longer : (kept text : List ℕ) (n : ℕ) → n ≡ length kept → 67108864 < n → kept ≡ text → most_kept < length text
longer kept text n long over same = omega (arith, over, long, ap (λ (l : List ℕ). length l) same)

-- ---- one row more

module _ (kept : KeptText) (t : TraceText) (row : Cycle) (stands : TextStands kept t) (can : CanTake t row) where
  turn : HasTurn t stands.cycle kept.stream can.params
  turn = has_turn t stands.cycle kept.stream stands.next can.params can.turn

  head-here : slice_get kept.heads kept.stream ≡ Some turn.head
  head-here = ap (λ (l : List Head). slice_get l kept.stream) stands.heads ∙ turn.there

  pub stream-within : kept.stream < length kept.heads
  stream-within = omega (arith, turn.in_streams, ap (λ (l : List Head). length l) stands.heads)

  pub no-past : (heads : List Head) → heads ≡ kept.heads → length heads ≤ kept.stream → ⊥
  no-past heads same past = omega (arith, past, stream-within, ap (λ (l : List Head). length l) same)

  pub head-params : (head : Head) → slice_get kept.heads kept.stream ≡ Some head → head.params ≡ can.params
  head-params head here = ap (λ (h : Head). h.params) (some_inside (sym here ∙ head-here)) ∙ turn.params

  pub row-shows : (head : Head) → slice_get kept.heads kept.stream ≡ Some head → IfSome row.shown (Shows head.params)
  row-shows head here = subst (λ (p : Parameters). IfSome row.shown (Shows p)) (sym (head-params head here)) can.shown

  text-more : (p : Parameters) → p ≡ can.params → text_so_far (with_row t row) ≡ text_so_far t ++ row_text p row
  text-more p same =
      let header = header_text (version_of t.heads) t.cycles t.heads in
      let rows = rows_text (owed (params_of_heads t.heads) t.cycles) t.rows in
      ap (λ l. header ++ l) (rows_text-more (owed (params_of_heads t.heads) t.cycles) t.rows row can.params can.turn) ∙ sym (append_assoc header rows (row_text can.params row))
      ∙ ap (λ (x : Parameters). text_so_far t ++ row_text x row) (sym same)

  pub over-stays : kept.over ≡ true → most_kept < length (text_so_far (with_row t row))
  over-stays over =
      let long : most_kept < length (text_so_far t) = subst (λ b. IsKept b kept.text (text_so_far t)) over stands.text in
      omega (arith, long, ap (λ (l : List ℕ). length l) (text-more can.params refl), length-append (text_so_far t) (row_text can.params row))

  pub text-grows : (head : Head) → slice_get kept.heads kept.stream ≡ Some head → kept.over ≡ false → (new : List ℕ) → new ≡ kept.text ++ row_text head.params row → new ≡ text_so_far (with_row t row)
  text-grows head here within new is =
      let same : (kept.text ≡ text_so_far t) × (length (text_so_far t) ≤ most_kept) = subst (λ b. IsKept b kept.text (text_so_far t)) within stands.text in
      is ∙ ap (λ l. l ++ row_text head.params row) same.0 ∙ sym (text-more head.params (head-params head here))

  pub row-next : (at count stream : ℕ) → at ≡ kept.stream → count ≡ length kept.heads → stream ≡ (if at + 1 == count then 0 else at + 1) → (cycle : ℕ) × IsNextRow (with_row t row) cycle stream
  row-next at count stream same long is =
      let many : count ≡ length t.heads = long ∙ ap (λ (l : List Head). length l) stands.heads in
      let here : stream ≡ (if kept.stream + 1 == length t.heads then 0 else kept.stream + 1) = is ∙ ap (λ n. if n + 1 == count then 0 else n + 1) same ∙ ap (λ n. if kept.stream + 1 == n then 0 else kept.stream + 1) many in
      ((if stream == 0 then stands.cycle + 1 else stands.cycle), next_row t stands.cycle kept.stream stands.next row can (if stream == 0 then stands.cycle + 1 else stands.cycle) stream here refl)
