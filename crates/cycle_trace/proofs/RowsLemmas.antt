-- All rows of a trace text, read in their order.
use Rattle.std.proofs.Common.{◌≡◌, ℕ, zero, suc, ◌+◌, ◌*◌, ◌<◌, ◌≤◌, List, [], ◌∷◌, length, ◌++◌, Some, Ok, Err, length-append, refl, sym, ap, ◌∙◌, arith}
use Rattle.std.proofs.Math.Nat.{suc-mul, zero-mul, mul-le-mul_right, lt_of_not-le}
use Rattle.std.specs.List.{slice_get}
use Rattle.std.specs.Option.{option_map}
use Rattle.std.proofs.lemmas.List.{length-map}
use Rattle.std.proofs.lemmas.Option.{slice_get_within, slice_get-map}
use Rattle.tydi_base.proofs.PlaceLemmas.{slice_get-front}
use Rattle.tydi_base.specs.Reading.{◌>>=◌}
use Rattle.physical_stream.specs.Params.{Parameters}
use Rattle.cycle_trace.specs.declared.fault.TraceFault.TheVariants.{RowsLeft}
use Rattle.cycle_trace.specs.RowText.{row_at}
use Rattle.cycle_trace.specs.RowsText.{cut_row}
use Rattle.physical_stream.specs.declared.head.Head.{Head}
use Rattle.cycle_trace.specs.Trace.{TraceText, owed, params_of_heads}
use Rattle.cycle_trace.specs.TraceText.{rows_from}

-- ---- the streams of the rows

pub length-owed : (streams : List Parameters) (cycles : ℕ) → length (owed streams cycles) ≡ cycles * length streams
length-owed streams zero = sym (zero-mul (length streams))
length-owed streams (suc cycles) = omega (arith, length-append streams (owed streams cycles), length-owed streams cycles, suc-mul cycles (length streams))

-- how many rows a header asks for
pub length-owed_heads : (t : TraceText) → length (owed (params_of_heads t.heads) t.cycles) ≡ t.cycles * length t.heads
length-owed_heads t = length-owed (params_of_heads t.heads) t.cycles ∙ ap (λ (n : ℕ). t.cycles * n) (length-map t.heads (λ (head : Head). head.params))

slice_get-back : {A : Type 0} (a b : List A) (i : ℕ) → slice_get (a ++ b) (length a + i) ≡ slice_get b i
slice_get-back [] b i = let here : 0 + i ≡ i = omega arith in ap (slice_get b) here
slice_get-back (x ∷ a) b i = let next : length (x ∷ a) + i ≡ suc (length a + i) = omega arith in ap (slice_get (x ∷ (a ++ b))) next ∙ slice_get-back a b i

-- the row of a stream in a cycle is of that stream
pub owed_at : (heads : List Head) (cycles turn stream : ℕ) (head : Head) → slice_get heads stream ≡ Some head → turn < cycles
    → slice_get (owed (params_of_heads heads) cycles) (turn * length heads + stream) ≡ Some head.params
owed_at heads zero turn stream head is some = absurd (omega arith)
owed_at heads (suc cycles) zero stream head is some =
    let streams = params_of_heads heads in
    let place : zero * length heads + stream ≡ stream = omega (arith, zero-mul (length heads)) in
    let within : stream < length streams = omega (arith, slice_get_within heads stream head is, length-map heads (λ (h : Head). h.params)) in
    rw place (slice_get-front streams (owed streams cycles) stream within ∙ slice_get-map (λ (h : Head). h.params) heads stream ∙ ap (option_map (λ (h : Head). h.params)) is)
owed_at heads (suc cycles) (suc turn) stream head is some =
    let streams = params_of_heads heads in
    let place : suc turn * length heads + stream ≡ length streams + (turn * length heads + stream) = omega (arith, suc-mul turn (length heads), length-map heads (λ (h : Head). h.params)) in
    rw place (slice_get-back streams (owed streams cycles) (turn * length heads + stream) ∙ owed_at heads cycles turn stream head is (omega arith))

-- ---- the rows of a text

-- the first row, and the rows after it
pub rows_from-cons : (want got number : ℕ) (p : Parameters) (streams : List Parameters) (line : List ℕ) (lines : List (List ℕ)) → 0 < length lines
    → rows_from want got number (p ∷ streams) (line ∷ lines) ≡ (row_at number p line >>= λ cycle. rows_from want (suc got) (suc number) streams lines >>= λ cycles. Ok (cycle ∷ cycles))
rows_from-cons want got number p streams line [] some = absurd (omega arith)
rows_from-cons want got number p streams [] (next ∷ lines) some = refl
rows_from-cons want got number p streams (byte ∷ line) (next ∷ lines) some = refl

pub rows_from-cut : (want got number : ℕ) (p : Parameters) (streams : List Parameters) (rest : List ℕ) → rows_from want got number (p ∷ streams) (rest ∷ []) ≡ Err (cut_row rest want got number)
rows_from-cut want got number p streams [] = refl
rows_from-cut want got number p streams (byte ∷ rest) = refl

pub rows_from-left : (want got number : ℕ) (lines : List (List ℕ)) → 0 < length lines → (lines ≡ [] ∷ [] → ⊥) → rows_from want got number [] lines ≡ Err (RowsLeft number)
rows_from-left want got number [] some other = absurd (omega arith)
rows_from-left want got number ([] ∷ []) some other = absurd (other refl)
rows_from-left want got number ((byte ∷ line) ∷ []) some other = refl
rows_from-left want got number ([] ∷ next ∷ lines) some other = refl
rows_from-left want got number ((byte ∷ line) ∷ next ∷ lines) some other = refl

pub some_stream : (cycles count got : ℕ) → got < cycles * count → 0 < count
some_stream cycles zero got lt = let none : cycles * 0 ≡ 0 = omega arith in absurd (omega arith)
some_stream cycles (suc count) got lt = omega arith

pub turn_below : (cycles count turn stream got : ℕ) → got ≡ turn * count + stream → got < cycles * count → turn < cycles
turn_below cycles count turn stream got place lt = lt_of_not-le (λ (large : cycles ≤ turn). let more : cycles * count ≤ turn * count = mul-le-mul_right count large in omega arith)
