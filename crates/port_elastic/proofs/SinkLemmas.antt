-- The cycles at a sink are a run of the same transfers with other gaps.
use Rattle.std.proofs.Common.{◌≡◌, ◌∙◌, ℕ, zero, suc, ◌+◌, ◌-◌, ◌<◌, ◌≤◌, Bool, List, [], ◌∷◌, ◌++◌, length, map, slice_get, Some, refl, sym, ap, subst, arith}
use Rattle.std.specs.List.{All}
use Rattle.physical_stream.specs.Counts.{transfers_of}
use Rattle.physical_stream.specs.Cycles.{Cycle}
use Rattle.physical_stream.specs.Params.{Parameters}
use Rattle.physical_stream.specs.declared.transfer.Transfer.{Transfer}
use Rattle.handshake.specs.Run.{run_of, undone}
use Rattle.handshake.specs.Rows.{StreamRun, row_at, rows_from, undone_in}
use Rattle.trace_pieces.proofs.RunLemmas.{mapped-from, same-found}
use Rattle.std.proofs.lemmas.List.{length-map}
use Rattle.steady_run.specs.Laws.{IsGappedRun}
use Rattle.steady_run.specs.Steady.{PausesAnywhere}
use Rattle.steady_run.proofs.GapLemmas.{steady_is_run}
use Rattle.elastic_net.specs.Nets.{ChainRun, chains_from, components_of, cycles_of, left_of_chains, sink_row, sink_rows}
use Rattle.elastic_net.specs.Orders.{IsOrder, own_order}
use Rattle.elastic_net.specs.Sinks.{left_in, state_after}
use Rattle.port_elastic.proofs.RunLemmas.{run-at}
use Rattle.elastic_net.specs.Laws.{OrdersAreOf}
use Rattle.elastic_net.proofs.OrderLemmas.{own-is_order}
use Rattle.elastic_net.proofs.SinkLemmas.{rows_are_cycles, sinks_are_ready, sinks_are_steady, sinks_deliver}

-- ---- one chain

-- a run with other gaps
abbrev pub regap : StreamRun → List ℕ → StreamRun
regap run gaps = record { params = run.params; transfers = run.transfers; gaps = gaps; ready = run.ready }

-- the cycles at the sink are a run with these gaps, none of which is longer than the run
pub record Replays (c : ChainRun) (gaps : List ℕ) : Type 0 where
  pub few : All (λ gap. gap ≤ length c.run.ready) gaps
  pub cycles : cycles_of c ≡ run_of c.run.params c.run.transfers gaps c.run.ready

pub replays : (c : ChainRun) → PausesAnywhere c.run.params → OrdersAreOf (suc (length c.stages)) c.orders → (gaps : List ℕ) × Replays c gaps
replays c pauses are = by (steady_is_run p ts cycles pauses (sinks_are_steady p ts c.run.gaps c.stages c.orders ready are))
  where
    p : Parameters
    p = c.run.params

    ts : List Transfer
    ts = c.run.transfers

    ready : List Bool
    ready = c.run.ready

    cycles : List Cycle
    cycles = cycles_of c

    bits : map (λ (now : Cycle). now.ready) cycles ≡ ready
    bits = sinks_are_ready p ts c.run.gaps c.stages c.orders ready

    long : length cycles ≡ length ready
    long = sym (length-map cycles (λ (now : Cycle). now.ready)) ∙ ap length bits

    by : IsGappedRun p ts cycles → (gaps : List ℕ) × Replays c gaps
    by is = (is.gaps, record { few = subst (λ (n : ℕ). All (λ gap. gap ≤ n) is.gaps) long is.few; cycles = is.run ∙ ap (run_of p ts is.gaps) bits })

-- so they have the same rows
pub row-same : (c : ChainRun) (gaps : List ℕ) (number : ℕ) → Replays c gaps → number < length c.run.ready → sink_row number c ≡ row_at number (regap c.run gaps)
row-same c gaps number replay within =
    same-found (slice_get (cycles_of c) number) (sink_row number c) (row_at number (regap c.run gaps))
    (rows_are_cycles c number within)
    (ap (λ (l : List Cycle). slice_get l number) replay.cycles ∙ run-at c.run.params c.run.transfers gaps c.run.ready number within)

-- and leave as many transfers
pub left-same : (c : ChainRun) (gaps : List ℕ) → Replays c gaps → OrdersAreOf (suc (length c.stages)) c.orders
    → left_in c.run.params c.run.transfers c.run.gaps c.stages (state_after c.run.params c.run.transfers c.run.gaps c.stages c.orders c.run.ready) ≡ undone c.run.params c.run.transfers gaps c.run.ready
left-same c gaps replay are =
    ap (λ (n : ℕ). length c.run.transfers - n) (sym (sinks_deliver c.run.params c.run.transfers c.run.gaps c.stages c.orders c.run.ready are).count ∙ ap transfers_of replay.cycles)

-- ---- all chains

-- runs with other gaps
abbrev pub regapped : List StreamRun → List (List ℕ) → List StreamRun
regapped [] gaps = []
regapped (run ∷ runs) [] = []
regapped (run ∷ runs) (gap ∷ gaps) = regap run gap ∷ regapped runs gaps

-- runs of streams that pause anywhere, with so many ready bits
pub record CanReplay (cycles : ℕ) (run : StreamRun) : Type 0 where
  pub pauses : PausesAnywhere run.params
  pub long : length run.ready ≡ cycles

-- the chains have the rows of the runs with these gaps, and leave as many transfers
pub record ReplaysAll (runs : List StreamRun) (chains : List ChainRun) (cycles : ℕ) : Type 0 where
  pub gaps : List (List ℕ)
  pub many : length gaps ≡ length runs
  pub few : (number : ℕ) (one : List ℕ) → slice_get gaps number ≡ Some one → All (λ gap. gap ≤ cycles) one
  pub rows : (number : ℕ) → number < cycles → map (sink_row number) chains ≡ map (row_at number) (regapped runs gaps)
  pub left : left_of_chains chains ≡ undone_in (regapped runs gaps)

own-orders : (first many total : ℕ) (orders : List (List ℕ)) → first + many ≤ total → ((number : ℕ) (order : List ℕ) → slice_get orders number ≡ Some order → IsOrder total order)
    → (number : ℕ) (order : List ℕ) → slice_get (map (own_order first many) orders) number ≡ Some order → IsOrder many order
own-orders first many total orders within all number order there =
    let m = mapped-from (own_order first many) orders number order there in
    subst (IsOrder many) (sym m.same) (own-is_order first many total m.from within (all number m.from m.there))

-- one chain more, before the others
module _ (first total : ℕ) (run : StreamRun) (runs : List StreamRun) (one : List ℕ) (orders : List (List ℕ)) (cycles : ℕ) (others : List ChainRun) (can : CanReplay cycles run) (more : ReplaysAll runs others cycles) where
  chain-of : ChainRun
  chain-of = record { run = run; stages = one; orders = map (own_order first (suc (length one))) orders }

  with-first : OrdersAreOf (suc (length one)) (map (own_order first (suc (length one))) orders) → (gaps : List ℕ) × Replays (record { run = run; stages = one; orders = map (own_order first (suc (length one))) orders }) gaps
      → ReplaysAll (run ∷ runs) (record { run = run; stages = one; orders = map (own_order first (suc (length one))) orders } ∷ others) cycles
  unfolding chain-of
  with-first own (gaps, replay) = record {
    gaps = gaps ∷ more.gaps;
    many = ap suc more.many;
    few = few_of;
    rows = rows_of;
    left = ap (λ (n : ℕ). n ∷ left_of_chains others) (left-same chain-of gaps replay own) ∙ ap (λ (l : List ℕ). undone run.params run.transfers gaps run.ready ∷ l) more.left;
  }
    where
      few_of : (number : ℕ) (these : List ℕ) → slice_get (gaps ∷ more.gaps) number ≡ Some these → All (λ gap. gap ≤ cycles) these
      few_of zero these there =
          let is : gaps ≡ these = cc in
          subst (λ (l : List ℕ). All (λ gap. gap ≤ cycles) l) is (subst (λ (n : ℕ). All (λ gap. gap ≤ n) gaps) can.long replay.few)
      few_of (suc number) these there = more.few number these there

      rows_of : (number : ℕ) → number < cycles → sink_row number chain-of ∷ map (sink_row number) others ≡ row_at number (regap run gaps) ∷ map (row_at number) (regapped runs more.gaps)
      rows_of number less =
          let long = can.long in
          ap (λ (now : Cycle). now ∷ map (sink_row number) others) (row-same chain-of gaps number replay (omega (arith, less, long)))
          ∙ ap (λ (l : List Cycle). row_at number (regap run gaps) ∷ l) (more.rows number less)

pub replays-all : (first total : ℕ) (runs : List StreamRun) (stages : List (List ℕ)) (orders : List (List ℕ)) (cycles : ℕ) → length runs ≡ length stages
    → ((number : ℕ) (run : StreamRun) → slice_get runs number ≡ Some run → CanReplay cycles run) → first + components_of stages ≤ total
    → ((number : ℕ) (order : List ℕ) → slice_get orders number ≡ Some order → IsOrder total order) → ReplaysAll runs (chains_from first runs stages orders) cycles
replays-all first total [] stages orders cycles same can within all = record { gaps = []; many = refl; few = λ number one there. cc; rows = λ number less. refl; left = refl }
replays-all first total (run ∷ runs) [] orders cycles same can within all = absurd (omega (arith, same))
replays-all first total (run ∷ runs) (one ∷ stages) orders cycles same can within all =
    let own = own-orders first (suc (length one)) total orders (omega (arith, within)) all in
    with-first first total run runs one orders cycles (chains_from (first + suc (length one)) runs stages orders) (can 0 run refl)
    (replays-all (first + suc (length one)) total runs stages orders cycles (omega (arith, same)) (λ number r there. can (suc number) r there) (omega (arith, within)) all)
    own (replays (record { run = run; stages = one; orders = map (own_order first (suc (length one))) orders }) (can 0 run refl).pauses own)

-- all rows are the same
pub rows-same : (runs : List StreamRun) (chains : List ChainRun) (cycles : ℕ) (r : ReplaysAll runs chains cycles) (many number : ℕ) → number + many ≤ cycles → sink_rows chains number many ≡ rows_from (regapped runs r.gaps) number many
rows-same runs chains cycles r zero number within = refl
rows-same runs chains cycles r (suc many) number within =
    ap (λ (l : List Cycle). l ++ sink_rows chains (suc number) many) (r.rows number (omega (arith, within)))
    ∙ ap (λ (l : List Cycle). map (row_at number) (regapped runs r.gaps) ++ l) (rows-same runs chains cycles r many (suc number) (omega (arith, within)))

-- ---- what holds of each chain

-- the chain of this number: its own orders, and its stages, each of which holds a transfer
pub chain-fits : (first total : ℕ) (runs : List StreamRun) (stages : List (List ℕ)) (orders : List (List ℕ)) → first + components_of stages ≤ total
    → ((number : ℕ) (order : List ℕ) → slice_get orders number ≡ Some order → IsOrder total order) → ((number : ℕ) (one : List ℕ) → slice_get stages number ≡ Some one → All (λ capacity. 1 ≤ capacity) one)
    → (number : ℕ) (chain : ChainRun) → slice_get (chains_from first runs stages orders) number ≡ Some chain → OrdersAreOf (suc (length chain.stages)) chain.orders × All (λ capacity. 1 ≤ capacity) chain.stages
chain-fits first total [] stages orders within all some number chain there = cc
chain-fits first total (run ∷ runs) [] orders within all some number chain there = cc
chain-fits first total (run ∷ runs) (one ∷ stages) orders within all some zero chain there =
    let is : record { run = run; stages = one; orders = map (own_order first (suc (length one))) orders } ≡ chain = cc in
    subst (λ (c : ChainRun). OrdersAreOf (suc (length c.stages)) c.orders × All (λ capacity. 1 ≤ capacity) c.stages) is (own-orders first (suc (length one)) total orders (omega (arith, within)) all, some 0 one refl)
chain-fits first total (run ∷ runs) (one ∷ stages) orders within all some (suc number) chain there =
    chain-fits (first + suc (length one)) total runs stages orders (omega (arith, within)) all (λ k these is. some (suc k) these is) number chain there
