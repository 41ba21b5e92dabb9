-- The rows that are left, as a simulation goes on.
use Rattle.std.proofs.Common.{◌≡◌, ◌∙◌, ℕ, suc, ◌+◌, ◌*◌, ◌<◌, ◌≤◌, Bool, false, List, [], ◌∷◌, ◌++◌, length, map, set, take, drop, get_or, slice_get, Some, sym, ap, subst, arith}
use Rattle.std.proofs.Math.Nat.{mul-le-mul_right}
use Rattle.std.proofs.lemmas.List.{map_more, take_all, take_more_set}
use Rattle.std.proofs.lemmas.Option.{slice_get_within}
use Rattle.tydi_base.proofs.PlaceLemmas.{slice_get-there}
use Rattle.physical_stream.specs.Cycles.{Cycle}
use Rattle.physical_stream.specs.declared.head.Head.{Head}
use Rattle.handshake.specs.Rows.{rows_behind}
use Rattle.trace_pieces.proofs.RunLemmas.{get-map, same-found}
use Rattle.vhdl_text.specs.declared.bench.Bench.{Bench}
use Rattle.vhdl_meaning.specs.Meaning.{Edge, cycle_at, meaning}
use Rattle.vhdl_meaning.specs.RunLaws.{FitsBench}
use Rattle.vhdl_meaning.specs.Simulated.{IsRowOf, StandsFor}
use Rattle.vhdl_meaning.specs.declared.run.SimRun.{SimRun}
use Rattle.vhdl_meaning.specs.declared.sim.Sim.{Sim}
use Rattle.bench_run.specs.Traces.{edge_at, edges_from, edges_of, rows_of}
use Rattle.bench_run.specs.Places.{rows_behind_place}
use Rattle.bench_run.specs.Turns.{FirstTurn}
use Rattle.bench_run.proofs.MomentLemmas.{bit-is, edges-next, length-edges, length-meaning, moment_at, moment-there}
use Rattle.bench_run.proofs.RowLemmas.{first-row, none-behind, row-there}

-- ---- the row of a stream in a cycle

module _ (bench : Bench) (run : SimRun) (number stream : ℕ) (head : Head) (there : slice_get bench.heads stream ≡ Some head) where
  -- the row of the stream in the cycle of this number
  abbrev pub row_of : Cycle
  row_of = cycle_at head.params stream (moment_at bench run number)

  pub row-of-there : number < run.cycles → slice_get (rows_of bench run) (number * length bench.heads + stream) ≡ Some row_of
  row-of-there less = row-there number stream bench.heads (meaning bench (edges_of run)) (moment_at bench run number) head (moment-there bench run number run.cycles less) there

  -- a cycle that the simulation shows is that row
  pub row-of-shown : (ready : Bool) (cycle : Cycle) → length run.ready ≡ length bench.heads → ready ≡ get_or (get_or run.ready stream []) number false →
      IsRowOf bench (edges_from run 0 number) stream ready cycle → cycle ≡ row_of
  row-of-shown ready cycle many bit is =
      let within : stream < length run.ready = omega (arith, slice_get_within bench.heads stream head there, many) in
      let shown = is (edge_at run number) head there (bit-is run number stream within ∙ sym bit) in
      let found : slice_get (map (cycle_at head.params stream) (meaning bench (edges_from run 0 (suc number)))) number ≡ Some cycle =
      sym (ap (λ (l : List Edge). slice_get (map (cycle_at head.params stream) (meaning bench l)) number) (edges-next run number))
      ∙ sym (ap (λ k. slice_get (map (cycle_at head.params stream) (meaning bench (edges_from run 0 number ++ edge_at run number ∷ []))) k) (length-edges run 0 number))
      ∙ shown in
      same-found (slice_get (map (cycle_at head.params stream) (meaning bench (edges_from run 0 (suc number)))) number) cycle row_of found
      (get-map (cycle_at head.params stream) (meaning bench (edges_from run 0 (suc number))) number (moment_at bench run number) (moment-there bench run number (suc number) (omega arith)))

-- ---- the rows that are left

-- one row further
pub rows-next : (bench : Bench) (run : SimRun) (number stream : ℕ) (row : Cycle) → slice_get (rows_of bench run) (number * length bench.heads + stream) ≡ Some row →
    rows_behind_place bench run number (stream + 1) ≡ rows_behind (rows_behind_place bench run number stream)
rows-next bench run number stream row is =
    let k = number * length bench.heads + stream in
    let next : number * length bench.heads + (stream + 1) ≡ k + 1 = omega arith in
    ap (λ n. drop n (rows_of bench run)) next ∙ sym (ap rows_behind (first-row (rows_of bench run) k row is))

-- past the last stream of a cycle the next cycle begins
pub rows-pass : (bench : Bench) (run : SimRun) (number stream : ℕ) → stream ≡ length bench.heads → rows_behind_place bench run (number + 1) 0 ≡ rows_behind_place bench run number stream
rows-pass bench run number stream is =
    let same : (number + 1) * length bench.heads + 0 ≡ number * length bench.heads + stream = grind (arith, is) in
    ap (λ n. drop n (rows_of bench run)) same

-- before the first row all rows are left
pub rows-all : (bench : Bench) (run : SimRun) → rows_behind_place bench run 0 0 ≡ rows_of bench run
rows-all bench run = let none : 0 * length bench.heads + 0 ≡ 0 = grind arith in ap (λ n. drop n (rows_of bench run)) none

-- no row is left after the last cycle
pub rows-over : (bench : Bench) (run : SimRun) (number stream : ℕ) → run.cycles ≤ number → rows_behind_place bench run number stream ≡ []
rows-over bench run number stream past =
    none-behind bench.heads (meaning bench (edges_of run)) (number * length bench.heads + stream) run.cycles (omega (arith, length-meaning bench run))
    (let most : run.cycles * length bench.heads ≤ number * length bench.heads = mul-le-mul_right (length bench.heads) past in omega (arith, most))

-- nor in the last cycle after its last stream
pub rows-last : (bench : Bench) (run : SimRun) (number stream : ℕ) → run.cycles ≤ number + 1 → length bench.heads ≤ stream → rows_behind_place bench run number stream ≡ []
rows-last bench run number stream past end =
    none-behind bench.heads (meaning bench (edges_of run)) (number * length bench.heads + stream) run.cycles (omega (arith, length-meaning bench run))
    (let most : run.cycles * length bench.heads ≤ (number + 1) * length bench.heads = mul-le-mul_right (length bench.heads) past in let one : (number + 1) * length bench.heads ≡ number * length bench.heads + length bench.heads = grind arith in omega (arith, most, one, end))

-- nor where there is no stream
pub rows-none : (bench : Bench) (run : SimRun) (number stream : ℕ) → length bench.heads ≡ 0 → rows_behind_place bench run number stream ≡ []
rows-none bench run number stream none =
    none-behind bench.heads (meaning bench (edges_of run)) (number * length bench.heads + stream) run.cycles (omega (arith, length-meaning bench run))
    (let zero_rows : run.cycles * length bench.heads ≡ 0 = ap (λ n. run.cycles * n) none ∙ (let z : run.cycles * 0 ≡ 0 = grind arith in z) in omega (arith, zero_rows))

-- ---- one turn

-- the first of the rows that are left, and the row that the simulation shows for it
pub turn-first : (bench : Bench) (run : SimRun) (number stream : ℕ) (ready : Bool) → FitsBench bench run → number < run.cycles → stream < length bench.heads →
    ready ≡ get_or (get_or run.ready stream []) number false →
    FirstTurn (rows_behind_place bench run number stream) bench run number (Some (record { stream = stream; ready = ready }))
turn-first bench run number stream ready fits less within bit =
    let found = slice_get-there bench.heads stream within in
    let row = row_of bench run number stream found.0 found.1 in
    let k = number * length bench.heads + stream in
    subst (λ (rows : List Cycle). FirstTurn rows bench run number (Some (record { stream = stream; ready = ready })))
    (sym (first-row (rows_of bench run) k row (row-of-there bench run number stream found.0 found.1 less)))
    (record { within = within; is = λ cycle shown. row-of-shown bench run number stream found.0 found.1 ready cycle fits.streams bit shown })

-- the rows behind it
pub turn-rows : (bench : Bench) (run : SimRun) (number stream : ℕ) → number < run.cycles → stream < length bench.heads →
    rows_behind_place bench run number (stream + 1) ≡ rows_behind (rows_behind_place bench run number stream)
turn-rows bench run number stream less within =
    let found = slice_get-there bench.heads stream within in
    rows-next bench run number stream (row_of bench run number stream found.0 found.1) (row-of-there bench run number stream found.0 found.1 less)

-- ---- what a simulation keeps

module _ (run : SimRun) (kept : List Bool) (number stream : ℕ) where
  -- the ready bits of all streams are those of the cycle
  pub all-bits : (many : ℕ) → length kept ≡ many → length run.ready ≡ many → stream ≡ many → take stream kept ≡ map (λ (bits : List Bool). get_or bits number false) (take stream run.ready) → kept ≡ (edge_at run number).ready
  all-bits many room streams end bits =
      sym (take_all stream kept (omega (arith, room, end))) ∙ bits ∙ ap (map (λ (one : List Bool). get_or one number false)) (take_all stream run.ready (omega (arith, streams, end)))

  -- the ready bit of one stream more
  pub more-bits : (ready : Bool) → stream < length kept → stream < length run.ready → ready ≡ get_or (get_or run.ready stream []) number false →
      take stream kept ≡ map (λ (bits : List Bool). get_or bits number false) (take stream run.ready) →
      take (stream + 1) (set kept stream ready) ≡ map (λ (bits : List Bool). get_or bits number false) (take (stream + 1) run.ready)
  more-bits ready room within bit bits =
      take_more_set kept stream ready room
      ∙ ap (λ (b : Bool). take stream kept ++ b ∷ []) bit
      ∙ ap (λ (l : List Bool). l ++ get_or (get_or run.ready stream []) number false ∷ []) bits
      ∙ sym (map_more (λ (one : List Bool). get_or one number false) run.ready stream [] within)

-- before the first row all rows of the bench are left
pub left-at-start : (own bench : Bench) (its run : SimRun) (number stream : ℕ) → own ≡ bench → its ≡ run → number ≡ 0 → stream ≡ 0 → rows_behind_place own its number stream ≡ rows_of bench run
left-at-start own bench its run number stream is_bench is_run is_number is_stream =
    ap (λ (b : Bench). rows_behind_place b its number stream) is_bench ∙ ap (λ (r : SimRun). rows_behind_place bench r number stream) is_run
    ∙ ap (λ n. rows_behind_place bench run n stream) is_number ∙ ap (rows_behind_place bench run 0) is_stream ∙ rows-all bench run

-- after an edge a simulation stands in the next cycle
pub stands-next : (sim : Sim) (bench : Bench) (run : SimRun) (number : ℕ) (ready : List Bool) (order : List ℕ) → sim.bench ≡ bench → ready ≡ (edge_at run number).ready → order ≡ get_or run.orders number [] →
    StandsFor sim bench (edges_from run 0 number ++ record { ready = ready; order = order } ∷ []) → StandsFor sim sim.bench (edges_from run 0 (number + 1))
stands-next sim bench run number ready order same is_ready is_order stands =
    let next : suc number ≡ number + 1 = omega arith in
    let edges : edges_from run 0 number ++ record { ready = ready; order = order } ∷ [] ≡ edges_from run 0 (number + 1) =
    ap (λ (r : List Bool). edges_from run 0 number ++ record { ready = r; order = order } ∷ []) is_ready
    ∙ ap (λ (o : List ℕ). edges_from run 0 number ++ record { ready = (edge_at run number).ready; order = o } ∷ []) is_order
    ∙ edges-next run number ∙ ap (edges_from run 0) next in
    subst (λ (b : Bench). StandsFor sim b (edges_from run 0 (number + 1))) (sym same) (subst (StandsFor sim bench) edges stands)
