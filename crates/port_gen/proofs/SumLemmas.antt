-- The sum of a trace's text, row by row.
use Rattle.std.proofs.Common.{◌≡◌, ◌∙◌, ℕ, ◌+◌, ◌%◌, ◌^◌, ◌<◌, ◌==◌, if◌then◌else◌, List, [], ◌∷◌, ◌++◌, length, get_or, Some, IfSome, refl, sym, ap, subst, append-nil, append_assoc, arith}
use Rattle.std.specs.List.{slice_get, sum}
use Rattle.std.specs.Option.{option_map}
use Rattle.std.proofs.Math.Nat.{mod-add-mod}
use Rattle.std.proofs.lemmas.List.{length-map}
use Rattle.std.proofs.lemmas.List.Sums.{sum_by-append, sum_by-cons}
use Rattle.std.proofs.lemmas.Option.{get_or_from_slice_get, slice_get-map}
use Rattle.physical_stream.specs.Params.{Parameters}
use Rattle.physical_stream.specs.Signals.{Shows}
use Rattle.physical_stream.specs.Cycles.{Cycle}
use Rattle.physical_stream.specs.declared.head.Head.{Head}
use Rattle.physical_stream.specs.declared.head.Header.{Header}
use Rattle.cycle_trace.specs.RowSink.{CanTake, begun_by, with_row}
use Rattle.cycle_trace.specs.Spelling.{header_text, row_text, rows_text}
use Rattle.cycle_trace.specs.Trace.{TraceText, owed, params_of_heads}
use Rattle.cycle_trace.specs.Version.{version_of}
use Rattle.cycle_trace.proofs.SurveyorLemmas.{HasTurn, has_turn, next_row}
use Rattle.port_gen.specs.Sums.{SumsTo, sum_on, text_sum_of}
use Rattle.port_gen.specs.declared.text_sum.SumRun.{SumRun}

-- ---- sums

pub sum_on-nil : (before : ℕ) → sum_on before [] ≡ before % 2 ^ 32
sum_on-nil before = ap (λ (n : ℕ). n % 2 ^ 32) (omega arith)

pub sum_on-cons : (before x : ℕ) (xs : List ℕ) → sum_on before (x ∷ xs) ≡ sum_on ((before + x) % 2 ^ 32) xs
sum_on-cons before x xs =
    let whole : before + sum (x ∷ xs) ≡ before + x + sum xs = omega (arith, sum_by-cons (λ (n : ℕ). n) x xs) in
    ap (λ (n : ℕ). n % 2 ^ 32) whole ∙ sym (mod-add-mod (before + x) (2 ^ 32) (sum xs))

pub sum_on-append : (before : ℕ) (one other : List ℕ) → sum_on before (one ++ other) ≡ sum_on (sum_on before one) other
sum_on-append before one other =
    let whole : before + sum (one ++ other) ≡ before + sum one + sum other = omega (arith, sum_by-append (λ (n : ℕ). n) one other) in
    ap (λ (n : ℕ). n % 2 ^ 32) whole ∙ sym (mod-add-mod (before + sum one) (2 ^ 32) (sum other))

-- ---- the text of the rows so far

rows_text-none : (streams : List Parameters) → rows_text streams [] ≡ []
rows_text-none [] = refl
rows_text-none (p ∷ streams) = refl

-- one row more
rows_text-more : (streams : List Parameters) (rows : List Cycle) (p : Parameters) (row : Cycle) → slice_get streams (length rows) ≡ Some p
    → rows_text streams (rows ++ row ∷ []) ≡ rows_text streams rows ++ row_text p row
rows_text-more [] [] p row turn = cc
rows_text-more [] (first ∷ rows) p row turn = cc
rows_text-more (q ∷ streams) [] p row turn =
    let same : q ≡ p = cc in
    ap (λ (rest : List ℕ). row_text q row ++ rest) (rows_text-none streams) ∙ append-nil (row_text q row) ∙ ap (λ (r : Parameters). row_text r row) same
rows_text-more (q ∷ streams) (first ∷ rows) p row turn =
    ap (λ (rest : List ℕ). row_text q first ++ rest) (rows_text-more streams rows p row turn) ∙ sym (append_assoc (row_text q first) (rows_text streams rows) (row_text p row))

abbrev header_of : TraceText → List ℕ
header_of t = header_text (version_of t.heads) t.cycles t.heads

pub text_sum-more : (t : TraceText) (row : Cycle) (can : CanTake t row) → text_sum_of (with_row t row) ≡ sum_on (text_sum_of t) (row_text can.params row)
text_sum-more t row can =
    let streams = owed (params_of_heads t.heads) t.cycles in
    ap (λ (rest : List ℕ). sum_on 0 (header_of t ++ rest)) (rows_text-more streams t.rows can.params row can.turn)
    ∙ ap (sum_on 0) (sym (append_assoc (header_of t) (rows_text streams t.rows) (row_text can.params row)))
    ∙ sum_on-append 0 (header_of t ++ rows_text streams t.rows) (row_text can.params row)

-- ---- before the first row

pub sums-begun : (header : Header) (run : SumRun) (room : List ℕ) → run.streams ≡ params_of_heads header.heads → run.stream ≡ 0
    → room ≡ header_text (version_of header.heads) header.cycles header.heads → run.total ≡ sum_on 0 room → SumsTo run (begun_by header)
sums-begun header run room streams first is total = record {
  streams = streams;
  cycle = 0;
  next = record { place = omega (arith, first); within = λ some. omega (arith, first) };
  sum_is = total ∙ ap (sum_on 0) (is ∙ sym (append-nil (header_text (version_of header.heads) header.cycles header.heads))
      ∙ ap (λ (rest : List ℕ). header_text (version_of header.heads) header.cycles header.heads ++ rest) (sym (rows_text-none (owed (params_of_heads header.heads) header.cycles))));
}

-- ---- one row more

module _ (t : TraceText) (run : SumRun) (stands : SumsTo run t) (row : Cycle) (can : CanTake t row) where
  turn : HasTurn t stands.cycle run.stream can.params
  turn = has_turn t stands.cycle run.stream stands.next can.params can.turn

  pub sum-many : length run.streams ≡ length t.heads
  sum-many = ap length stands.streams ∙ length-map t.heads (λ (head : Head). head.params)

  pub sum-within : run.stream < length run.streams
  sum-within = omega (arith, turn.in_streams, sum-many)

  sum-there : slice_get run.streams run.stream ≡ Some can.params
  sum-there =
      ap (λ (streams : List Parameters). slice_get streams run.stream) stands.streams
      ∙ slice_get-map (λ (head : Head). head.params) t.heads run.stream
      ∙ ap (option_map (λ (head : Head). head.params)) turn.there
      ∙ ap Some turn.params

  pub sum-params : (slice : List Parameters) (params : Parameters) → slice ≡ run.streams → params ≡ get_or slice run.stream params → params ≡ can.params
  sum-params slice params same is =
      is ∙ ap (λ (streams : List Parameters). get_or streams run.stream params) same ∙ get_or_from_slice_get run.streams run.stream can.params params sum-there

  pub sum-shown : (params : Parameters) → params ≡ can.params → IfSome row.shown (Shows params)
  sum-shown params same = subst (λ (p : Parameters). IfSome row.shown (Shows p)) (sym same) can.shown

  pub sums-more : (new : SumRun) (params : Parameters) (many : ℕ) → params ≡ can.params → many ≡ length run.streams → new.streams ≡ run.streams
      → new.stream ≡ (if run.stream + 1 == many then 0 else run.stream + 1) → new.total ≡ sum_on run.total (row_text params row) → SumsTo new (with_row t row)
  sums-more new params many same count streams next total = record {
    streams = streams ∙ stands.streams;
    cycle = if new.stream == 0 then stands.cycle + 1 else stands.cycle;
    next = next_row t stands.cycle run.stream stands.next row can (if new.stream == 0 then stands.cycle + 1 else stands.cycle) new.stream
        (next ∙ ap (λ (n : ℕ). if run.stream + 1 == n then 0 else run.stream + 1) (count ∙ sum-many)) refl;
    sum_is = total ∙ ap (λ (n : ℕ). sum_on n (row_text params row)) stands.sum_is ∙ ap (λ (p : Parameters). sum_on (text_sum_of t) (row_text p row)) same ∙ sym (text_sum-more t row can);
  }
