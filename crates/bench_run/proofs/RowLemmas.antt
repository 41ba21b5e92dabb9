-- The rows of moments, by their places.
use Rattle.std.proofs.Common.{◌≡◌, ◌∙◌, ℕ, zero, suc, ◌+◌, ◌*◌, ◌-◌, ◌<◌, ◌≤◌, ◌⊎◌, inl, inr, List, [], ◌∷◌, ◌++◌, length, length-append, drop, get_or, slice_get, Some, refl, sym, ap, subst, arith}
use Rattle.std.proofs.Math.Nat.{mul-le-mul_right}
use Rattle.std.proofs.lemmas.Bool.{cases_lt}
use Rattle.std.proofs.lemmas.List.{drop_more, drop_all, length-map}
use Rattle.std.proofs.lemmas.Option.{get_or_from_slice_get, slice_get_within}
use Rattle.tydi_base.proofs.PlaceLemmas.{slice_get-front}
use Rattle.physical_stream.specs.Cycles.{Cycle}
use Rattle.physical_stream.specs.Params.{Parameters}
use Rattle.physical_stream.specs.Signals.{Shows}
use Rattle.physical_stream.specs.declared.head.Head.{Head}
use Rattle.physical_stream.specs.declared.transfer.Transfer.{Transfer}
use Rattle.cycle_trace.specs.Trace.{AreShown, owed, params_of_heads}
use Rattle.vhdl_meaning.specs.Meaning.{Moment, cycle_at}
use Rattle.bench_run.specs.Traces.{cycles_from, rows_in}
use Rattle.bench_run.specs.Turns.{none_left}

get-behind : {A : Type 0} (front back : List A) (i k : ℕ) → k ≡ length front + i → slice_get (front ++ back) k ≡ slice_get back i
get-behind [] back i k is = let e : k ≡ i = omega (arith, is) in ap (slice_get back) e
get-behind (x ∷ front) back i zero is = absurd (omega (arith, is))
get-behind (x ∷ front) back i (suc k) is = get-behind front back i k (omega (arith, is))

-- ---- the rows of one cycle

pub length-cycles : (stream : ℕ) (heads : List Head) (moment : Moment) → length (cycles_from stream heads moment) ≡ length heads
length-cycles stream [] moment = refl
length-cycles stream (head ∷ heads) moment = ap suc (length-cycles (suc stream) heads moment)

cycle-there : (j stream : ℕ) (heads : List Head) (moment : Moment) (head : Head) → slice_get heads j ≡ Some head → slice_get (cycles_from stream heads moment) j ≡ Some (cycle_at head.params (stream + j) moment)
cycle-there j stream [] moment head is = cc
cycle-there zero stream (one ∷ heads) moment head is =
    let same : one ≡ head = cc in
    let e : stream ≡ stream + 0 = omega arith in
    ap (λ (h : Head). Some (cycle_at h.params stream moment)) same ∙ ap (λ n. Some (cycle_at head.params n moment)) e
cycle-there (suc j) stream (one ∷ heads) moment head is =
    let e : suc stream + j ≡ stream + suc j = omega arith in
    cycle-there j (suc stream) heads moment head is ∙ ap (λ n. Some (cycle_at head.params n moment)) e

-- ---- the rows of all cycles

times-next : (c n : ℕ) → suc c * n ≡ n + c * n
times-next c n = grind arith

pub length-rows : (heads : List Head) (moments : List Moment) → length (rows_in heads moments) ≡ length moments * length heads
length-rows heads [] = let e : 0 * length heads ≡ 0 = grind arith in sym e
length-rows heads (moment ∷ moments) =
    length-append (cycles_from 0 heads moment) (rows_in heads moments)
    ∙ ap (λ n. n + length (rows_in heads moments)) (length-cycles 0 heads moment)
    ∙ ap (λ n. length heads + n) (length-rows heads moments)
    ∙ sym (times-next (length moments) (length heads))

pub row-there : (c j : ℕ) (heads : List Head) (moments : List Moment) (moment : Moment) (head : Head) → slice_get moments c ≡ Some moment → slice_get heads j ≡ Some head →
    slice_get (rows_in heads moments) (c * length heads + j) ≡ Some (cycle_at head.params j moment)
row-there c j heads [] moment head at there = cc
row-there zero j heads (one ∷ moments) moment head at there =
    let same : one ≡ moment = cc in
    let first : 0 * length heads + j ≡ j = grind arith in
    let within : j < length (cycles_from 0 heads one) = omega (arith, slice_get_within heads j head there, length-cycles 0 heads one) in
    let stream : 0 + j ≡ j = omega arith in
    ap (slice_get (cycles_from 0 heads one ++ rows_in heads moments)) first
    ∙ slice_get-front (cycles_from 0 heads one) (rows_in heads moments) j within
    ∙ cycle-there j 0 heads one head there
    ∙ ap (λ n. Some (cycle_at head.params n one)) stream
    ∙ ap (λ (m : Moment). Some (cycle_at head.params j m)) same
row-there (suc c) j heads (one ∷ moments) moment head at there =
    let step : suc c * length heads + j ≡ length (cycles_from 0 heads one) + (c * length heads + j) = omega (arith, length-cycles 0 heads one, times-next c (length heads)) in
    get-behind (cycles_from 0 heads one) (rows_in heads moments) (c * length heads + j) (suc c * length heads + j) step
    ∙ row-there c j heads moments moment head at there

-- ---- the rows from one on

pub first-row : (rows : List Cycle) (k : ℕ) (row : Cycle) → slice_get rows k ≡ Some row → drop k rows ≡ row ∷ drop (k + 1) rows
first-row rows k row is =
    drop_more rows k row (slice_get_within rows k row is) ∙ ap (λ (r : Cycle). r ∷ drop (k + 1) rows) (get_or_from_slice_get rows k row row is)

pub none-behind : (heads : List Head) (moments : List Moment) (k c : ℕ) → length moments ≤ c → c * length heads ≤ k → drop k (rows_in heads moments) ≡ []
none-behind heads moments k c few past =
    let most : length moments * length heads ≤ c * length heads = mul-le-mul_right (length heads) few in
    drop_all k (rows_in heads moments) (let l = length-rows heads moments in omega (arith, most, past, l))

-- ---- the transfers that are shown

-- each stream shows in this moment only what it can show
abbrev pub IsShownAt : List Head → Moment → Type 0
IsShownAt heads moment = (stream : ℕ) (head : Head) (t : Transfer) → slice_get heads stream ≡ Some head → (cycle_at head.params stream moment).shown ≡ Some t → Shows head.params t

cycles-shown : (i stream : ℕ) (heads : List Head) (moment : Moment) (p : Parameters) (row : Cycle) (t : Transfer) →
    ((j : ℕ) (head : Head) (u : Transfer) → slice_get heads j ≡ Some head → (cycle_at head.params (stream + j) moment).shown ≡ Some u → Shows head.params u) →
    slice_get (params_of_heads heads) i ≡ Some p → slice_get (cycles_from stream heads moment) i ≡ Some row → row.shown ≡ Some t → Shows p t
cycles-shown i stream [] moment p row t shown is_p is_row is_t = cc
cycles-shown zero stream (head ∷ heads) moment p row t shown is_p is_row is_t =
    let param : head.params ≡ p = cc in
    let same : cycle_at head.params stream moment ≡ row = cc in
    let e : stream + 0 ≡ stream = omega arith in
    subst (λ (q : Parameters). Shows q t) param
    (shown 0 head t refl (ap (λ n. (cycle_at head.params n moment).shown) e ∙ ap (λ (c : Cycle). c.shown) same ∙ is_t))
cycles-shown (suc i) stream (head ∷ heads) moment p row t shown is_p is_row is_t =
    cycles-shown i (suc stream) heads moment p row t
    (λ j one u there is. let e : stream + suc j ≡ suc stream + j = omega arith in shown (suc j) one u there (ap (λ n. (cycle_at one.params n moment).shown) e ∙ is)) is_p is_row is_t

length-params : (heads : List Head) → length (params_of_heads heads) ≡ length heads
length-params heads = length-map heads (λ (head : Head). head.params)

pub many-rows : (heads : List Head) (moments : List Moment) → length (rows_in heads moments) ≡ length (owed (params_of_heads heads) (length moments))
many-rows heads [] = refl
many-rows heads (moment ∷ moments) =
    length-append (cycles_from 0 heads moment) (rows_in heads moments)
    ∙ ap (λ n. n + length (rows_in heads moments)) (length-cycles 0 heads moment ∙ sym (length-params heads))
    ∙ ap (λ n. length (params_of_heads heads) + n) (many-rows heads moments)
    ∙ sym (length-append (params_of_heads heads) (owed (params_of_heads heads) (length moments)))

each-shown : (heads : List Head) (moments : List Moment) (i : ℕ) (p : Parameters) (row : Cycle) (t : Transfer) → ((c : ℕ) (moment : Moment) → slice_get moments c ≡ Some moment → IsShownAt heads moment) →
    slice_get (owed (params_of_heads heads) (length moments)) i ≡ Some p → slice_get (rows_in heads moments) i ≡ Some row → row.shown ≡ Some t → Shows p t
each-shown heads [] i p row t shown is_p is_row is_t = cc
each-shown heads (moment ∷ moments) i p row t shown is_p is_row is_t =
    by_place (cases_lt i (length heads)) (λ at_p at_row. each-shown heads moments (i - length heads) p row t (λ c m at. shown (suc c) m at) at_p at_row is_t)
  where
    streams : List Parameters
    streams = params_of_heads heads

    by_place : (i < length heads) ⊎ (length heads ≤ i) →
        (slice_get (owed streams (length moments)) (i - length heads) ≡ Some p → slice_get (rows_in heads moments) (i - length heads) ≡ Some row → Shows p t) → Shows p t
    by_place (inl before) later =
        cycles-shown i 0 heads moment p row t (λ j head u there is. let e : j ≡ 0 + j = omega arith in shown 0 moment refl j head u there (ap (λ n. (cycle_at head.params n moment).shown) e ∙ is))
        (sym (slice_get-front streams (owed streams (length moments)) i (omega (arith, before, length-params heads))) ∙ is_p)
        (sym (slice_get-front (cycles_from 0 heads moment) (rows_in heads moments) i (omega (arith, before, length-cycles 0 heads moment))) ∙ is_row) is_t
    by_place (inr past) later =
        later
        (sym (get-behind streams (owed streams (length moments)) (i - length heads) i (omega (arith, past, length-params heads))) ∙ is_p)
        (sym (get-behind (cycles_from 0 heads moment) (rows_in heads moments) (i - length heads) i (omega (arith, past, length-cycles 0 heads moment))) ∙ is_row)

pub rows-shown : (heads : List Head) (moments : List Moment) → ((c : ℕ) (moment : Moment) → slice_get moments c ≡ Some moment → IsShownAt heads moment) → AreShown (owed (params_of_heads heads) (length moments)) (rows_in heads moments)
rows-shown heads moments shown = record { many = many-rows heads moments; each = λ i p row t is_p is_row is_t. each-shown heads moments i p row t shown is_p is_row is_t }

-- no stream has a transfer left that is known
pub none_left-none : (heads : List Head) (stream : ℕ) → get_or (none_left heads) stream 0 ≡ 0
none_left-none [] stream = refl
none_left-none (head ∷ heads) zero = refl
none_left-none (head ∷ heads) (suc stream) = none_left-none heads stream
