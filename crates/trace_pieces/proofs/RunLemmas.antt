-- The rows of the runs of a port's streams are the rows of a trace.
use Rattle.std.proofs.lemmas.Bool.{cases_lt}
use Rattle.std.proofs.Common.{◌≡◌, ◌∙◌, ℕ, zero, suc, ◌+◌, ◌*◌, ◌-◌, ◌<◌, ◌≤◌, nat_le, ◌⊎◌, inl, inr, Bool, true, false, if◌then◌else◌, List, [], ◌∷◌, ◌++◌, length, length-append, map, take, drop, get_or, slice_get, Option, None, Some, refl, sym, ap, subst, arith}
use Rattle.std.specs.List.{All}
use Rattle.std.specs.Option.{option_to_list}
use Rattle.std.proofs.lemmas.List.{length-map, take_all}
use Rattle.std.proofs.lemmas.List.Elements.{All-get_or}
use Rattle.std.proofs.lemmas.Option.{get_or_from_slice_get, slice_get-get_or, slice_get_within}
use Rattle.tydi_base.proofs.PlaceLemmas.{slice_get-front}
use Rattle.physical_stream.specs.Cycles.{Cycle, StreamTrace}
use Rattle.physical_stream.specs.Items.{parts_below}
use Rattle.physical_stream.specs.Params.{Parameters}
use Rattle.physical_stream.specs.Signals.{Shows}
use Rattle.physical_stream.specs.declared.head.Head.{Head}
use Rattle.physical_stream.specs.declared.transfer.Transfer.{Transfer}
use Rattle.cycle_trace.specs.Trace.{AreShown, TraceText, cycles_of_stream, owed, params_of_heads, row_in, streams_from, streams_of}
use Rattle.handshake.specs.Rows.{StreamRun, row_at, rows_from}
use Rattle.handshake.specs.Run.{gap_of, idle_of, run_of, shown_after}
use Rattle.physical_stream.specs.Counts.{transfers_of}
use Rattle.handshake.proofs.CursorLemmas.{drop-get, drop-next}
use Rattle.handshake.proofs.FinishLemmas.{run_of-more}
use Rattle.handshake.proofs.RunLemmas.{take-next}
use Rattle.trace_pieces.specs.Laws.{AreRunsOf, stream_of_run, trace_of_runs}

-- ---- lists

slice_get-behind : {A : Type 0} (front back : List A) (i k : ℕ) → k ≡ length front + i → slice_get (front ++ back) k ≡ slice_get back i
slice_get-behind [] back i k is = let e : k ≡ i = omega (arith, is) in ap (slice_get back) e
slice_get-behind (x ∷ front) back i zero is = absurd (omega (arith, is))
slice_get-behind (x ∷ front) back i (suc k) is = slice_get-behind front back i k (omega (arith, is))

pub get-map : {A B : Type 0} (f : A → B) (xs : List A) (i : ℕ) (x : A) → slice_get xs i ≡ Some x → slice_get (map f xs) i ≡ Some (f x)
get-map f [] i x is = cc
get-map f (y ∷ xs) zero x is = let e : y ≡ x = cc in ap (λ z. Some (f z)) e
get-map f (y ∷ xs) (suc i) x is = get-map f xs i x is

-- an element of a list that is mapped is that of one of the list
pub record IsMapped {A B : Type 0} (f : A → B) (xs : List A) (i : ℕ) (y : B) : Type 0 where
  pub from : A
  pub there : slice_get xs i ≡ Some from
  pub same : y ≡ f from

pub mapped-from : {A B : Type 0} (f : A → B) (xs : List A) (i : ℕ) (y : B) → slice_get (map f xs) i ≡ Some y → IsMapped f xs i y
mapped-from f [] i y is = cc
mapped-from f (x ∷ xs) zero y is = let e : f x ≡ y = cc in record { from = x; there = refl; same = sym e }
mapped-from f (x ∷ xs) (suc i) y is = let m = mapped-from f xs i y is in record { from = m.from; there = m.there; same = m.same }

pub same-found : {A : Type 0} (o : Option A) (x y : A) → o ≡ Some x → o ≡ Some y → x ≡ y
same-found o x y is_x is_y = cc

shows-there : (p : Parameters) (ts : List Transfer) (i : ℕ) (t : Transfer) → slice_get ts i ≡ Some t → All (Shows p) ts → Shows p t
shows-there p ts i t is all = subst (Shows p) (get_or_from_slice_get ts i t t is) (All-get_or (Shows p) ts i t (slice_get_within ts i t is) all)

-- ---- how many rows there are, and what they show

abbrev params_in : List StreamRun → List Parameters
params_in runs = map (λ (s : StreamRun). s.params) runs

many-rows : (runs : List StreamRun) (number many : ℕ) → length (rows_from runs number many) ≡ length (owed (params_in runs) many)
many-rows runs number zero = refl
many-rows runs number (suc many) =
    length-append (map (row_at number) runs) (rows_from runs (suc number) many)
    ∙ ap (λ (n : ℕ). n + length (rows_from runs (suc number) many)) (length-map runs (row_at number) ∙ sym (length-map runs (λ (s : StreamRun). s.params)))
    ∙ ap (λ (n : ℕ). length (params_in runs) + n) (many-rows runs (suc number) many)
    ∙ sym (length-append (params_in runs) (owed (params_in runs) many))

-- a transfer that is shown after others is one of the list
shown-from : (p : Parameters) (ts : List Transfer) (gaps : List ℕ) (before : List Cycle) (t : Transfer) → All (Shows p) ts → shown_after p ts gaps before ≡ Some t → Shows p t
shown-from p ts gaps before t all = by (nat_le (gap_of p ts gaps (transfers_of before)) (idle_of before))
  where
    by : (passed : Bool) → (if passed then slice_get ts (transfers_of before) else None) ≡ Some t → Shows p t
    by true is = shows-there p ts (transfers_of before) t is all
    by false is = cc

module _ (runs : List StreamRun) (shown : (i : ℕ) (s : StreamRun) → slice_get runs i ≡ Some s → All (Shows s.params) s.transfers) where
  first-rows : (number i : ℕ) (p : Parameters) (row : Cycle) (t : Transfer) → slice_get (params_in runs) i ≡ Some p → slice_get (map (row_at number) runs) i ≡ Some row → row.shown ≡ Some t → Shows p t
  first-rows number i p row t is_p is_row is_t =
      let m = mapped-from (λ (s : StreamRun). s.params) runs i p is_p in
      let r = mapped-from (row_at number) runs i row is_row in
      let same : m.from ≡ r.from = same-found (slice_get runs i) m.from r.from m.there r.there in
      let s = r.from in
      subst (λ (q : Parameters). Shows q t) (sym (m.same ∙ ap (λ (x : StreamRun). x.params) same))
      (shown-from s.params s.transfers s.gaps (run_of s.params s.transfers s.gaps (take number s.ready)) t (shown i s r.there) (sym (ap (λ (c : Cycle). c.shown) r.same) ∙ is_t))

  each-row : (many number i : ℕ) (p : Parameters) (row : Cycle) (t : Transfer) → slice_get (owed (params_in runs) many) i ≡ Some p → slice_get (rows_from runs number many) i ≡ Some row → row.shown ≡ Some t → Shows p t
  each-row zero number i p row t is_p is_row is_t = cc
  each-row (suc many) number i p row t is_p is_row is_t = by (cases_lt i (length runs)) (each-row many (suc number) (i - length runs) p row t)
    where
      of_params : length (params_in runs) ≡ length runs
      of_params = length-map runs (λ (s : StreamRun). s.params)

      of_rows : length (map (row_at number) runs) ≡ length runs
      of_rows = length-map runs (row_at number)

      by : (i < length runs) ⊎ (length runs ≤ i)
          → (slice_get (owed (params_in runs) many) (i - length runs) ≡ Some p → slice_get (rows_from runs (suc number) many) (i - length runs) ≡ Some row → row.shown ≡ Some t → Shows p t) → Shows p t
      by (inl below) later = first-rows number i p row t
          (sym (slice_get-front (params_in runs) (owed (params_in runs) many) i (omega (arith, below, of_params))) ∙ is_p)
          (sym (slice_get-front (map (row_at number) runs) (rows_from runs (suc number) many) i (omega (arith, below, of_rows))) ∙ is_row) is_t
      by (inr past) later = later
          (sym (slice_get-behind (params_in runs) (owed (params_in runs) many) (i - length runs) i (omega (arith, past, of_params))) ∙ is_p)
          (sym (slice_get-behind (map (row_at number) runs) (rows_from runs (suc number) many) (i - length runs) i (omega (arith, past, of_rows))) ∙ is_row) is_t

pub runs-shown : (cycles : ℕ) (heads : List Head) (runs : List StreamRun) → AreRunsOf cycles heads runs → AreShown (owed (params_of_heads heads) cycles) (rows_from runs 0 cycles)
runs-shown cycles heads runs are = subst (λ (ps : List Parameters). AreShown (owed ps cycles) (rows_from runs 0 cycles)) (sym are.params) (record {
  many = many-rows runs 0 cycles;
  each = each-row runs are.shown cycles 0;
})

-- ---- the cycles of a stream

-- the row of a stream in a cycle
row-there : (many : ℕ) (runs : List StreamRun) (number c j : ℕ) (run : StreamRun) → c < many → slice_get runs j ≡ Some run → slice_get (rows_from runs number many) (c * length runs + j) ≡ Some (row_at (number + c) run)
row-there zero runs number c j run below there = absurd (omega (arith, below))
row-there (suc many) runs number zero j run below there =
    let within : j < length (map (row_at number) runs) = omega (arith, slice_get_within runs j run there, length-map runs (row_at number)) in
    let first : 0 * length runs + j ≡ j = omega arith in
    let here : number ≡ number + 0 = omega arith in
    ap (slice_get (map (row_at number) runs ++ rows_from runs (suc number) many)) first
    ∙ slice_get-front (map (row_at number) runs) (rows_from runs (suc number) many) j within
    ∙ get-map (row_at number) runs j run there ∙ ap (λ (n : ℕ). Some (row_at n run)) here
row-there (suc many) runs number (suc c) j run below there =
    let step : suc c * length runs + j ≡ length (map (row_at number) runs) + (c * length runs + j) = omega (arith, length-map runs (row_at number), next_product c (length runs)) in
    let later : suc number + c ≡ number + suc c = omega arith in
    slice_get-behind (map (row_at number) runs) (rows_from runs (suc number) many) (c * length runs + j) (suc c * length runs + j) step
    ∙ row-there many runs (suc number) c j run (omega (arith, below)) there ∙ ap (λ (n : ℕ). Some (row_at n run)) later
  where
    next_product : (c n : ℕ) → suc c * n ≡ n + c * n
    next_product c n = grind arith

module _ (cycles : ℕ) (heads : List Head) (runs : List StreamRun) (are : AreRunsOf cycles heads runs) where
  abbrev trace : TraceText
  trace = trace_of_runs cycles heads runs

  as-many : length heads ≡ length runs
  as-many = sym (length-map heads (λ (head : Head). head.params)) ∙ ap length are.params ∙ length-map runs (λ (s : StreamRun). s.params)

  row-is : (c j : ℕ) (run : StreamRun) → c < cycles → slice_get runs j ≡ Some run → row_in trace j c ≡ row_at c run ∷ []
  row-is c j run below there =
      let first : 0 + c ≡ c = omega arith in
      ap (λ (n : ℕ). option_to_list (slice_get (rows_from runs 0 cycles) (c * n + j))) as-many
      ∙ ap option_to_list (row-there cycles runs 0 c j run below there)
      ∙ ap (λ (n : ℕ). row_at n run ∷ []) first

  cycles-below : (c j : ℕ) (run : StreamRun) → c ≤ cycles → slice_get runs j ≡ Some run → parts_below (row_in trace j) c ≡ run_of run.params run.transfers run.gaps (take c run.ready)
  cycles-below zero j run within there = refl
  cycles-below (suc c) j run within there =
      let below : c < length run.ready = omega (arith, within, are.long j run there) in
      let bits : take (suc c) run.ready ≡ take c run.ready ++ get_or run.ready c false ∷ [] = take-next run.ready c (get_or run.ready c false) (slice_get-get_or run.ready c false below) in
      ap (λ (l : List Cycle). l ++ row_in trace j c) (cycles-below c j run (omega (arith, within)) there)
      ∙ ap (λ (l : List Cycle). run_of run.params run.transfers run.gaps (take c run.ready) ++ l) (row-is c j run (omega (arith, within)) there)
      ∙ sym (ap (run_of run.params run.transfers run.gaps) bits ∙ run_of-more run.params run.transfers run.gaps (take c run.ready) (get_or run.ready c false))

  cycles-are : (j : ℕ) (run : StreamRun) → slice_get runs j ≡ Some run → cycles_of_stream trace j ≡ run_of run.params run.transfers run.gaps run.ready
  cycles-are j run there =
      cycles-below cycles j run (omega arith) there
      ∙ ap (run_of run.params run.transfers run.gaps) (take_all cycles run.ready (omega (arith, are.long j run there)))

  streams-behind : (hs : List Head) (rest : List StreamRun) (j : ℕ) → params_of_heads hs ≡ params_in rest → drop j runs ≡ rest → streams_from trace j hs ≡ map stream_of_run rest
  streams-behind [] [] j same is = refl
  streams-behind [] (run ∷ rest) j same is = cc
  streams-behind (head ∷ hs) [] j same is = cc
  streams-behind (head ∷ hs) (run ∷ rest) j same is =
      let params : head.params ≡ run.params = cc in
      let more : params_of_heads hs ≡ params_in rest = cc in
      ap (λ (p : Parameters). record { params = p; cycles = cycles_of_stream trace j } ∷ streams_from trace (suc j) hs) params
      ∙ ap (λ (l : List Cycle). record { params = run.params; cycles = l } ∷ streams_from trace (suc j) hs) (cycles-are j run (drop-get runs j run rest is))
      ∙ ap (λ (l : List StreamTrace). stream_of_run run ∷ l) (streams-behind hs rest (suc j) more (drop-next runs j run rest is))

  pub streams-are : streams_of trace ≡ map stream_of_run runs
  streams-are = streams-behind heads runs 0 are.params refl
