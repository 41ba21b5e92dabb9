-- The rows at the sinks of a port: by cycle and then by stream (this project's own).
use Rattle.std.specs.Prelude.{◌≡◌, ℕ, zero, suc, ◌+◌, false, List, [], ◌∷◌, ◌++◌, map, take, drop, length, get_or, slice_get, Some}
use Rattle.physical_stream.specs.Cycles.{Cycle}
use Rattle.handshake.specs.Rows.{StreamRun}
use Rattle.elastic_net.specs.Orders.{IsOrder, own_order}
use Rattle.elastic_net.specs.Sinks.{left_in, sink_cycles, sink_now, state_after}

-- one stream of an elastic net: its run, the capacities of its stages, and the orders of its own components
pub record ChainRun : Type 0 where
  pub run : StreamRun
  pub stages : List ℕ
  pub orders : List (List ℕ)

-- how many components the stages of streams have: for each stream its source and its stages
abbrev pub components_of : List (List ℕ) → ℕ
components_of [] = 0
components_of (stages ∷ more) = suc (length stages) + components_of more

-- each order is one of all components
abbrev pub AreOrders : (stages : List (List ℕ)) → (orders : List (List ℕ)) → Type 0
AreOrders stages orders = (number : ℕ) (order : List ℕ) → slice_get orders number ≡ Some order → IsOrder (components_of stages) order

-- the streams of an elastic net, whose first component has this number in the orders
abbrev pub chains_from : (first : ℕ) → List StreamRun → (stages : List (List ℕ)) → (orders : List (List ℕ)) → List ChainRun
chains_from first [] stages orders = []
chains_from first (run ∷ runs) [] orders = []
chains_from first (run ∷ runs) (stages ∷ more) orders =
    record { run = run; stages = stages; orders = map (own_order first (suc (length stages))) orders } ∷ chains_from (first + suc (length stages)) runs more orders

abbrev pub chains_of : List StreamRun → (stages : List (List ℕ)) → (orders : List (List ℕ)) → List ChainRun
chains_of runs stages orders = chains_from 0 runs stages orders

-- all cycles at the sink of one stream
abbrev pub cycles_of : ChainRun → List Cycle
cycles_of c = sink_cycles c.run.params c.run.transfers c.run.gaps c.stages c.orders c.run.ready

-- the cycle of this number at the sink: the one after the state that the ready bits before it lead to
abbrev pub sink_row : ℕ → ChainRun → Cycle
sink_row number c =
    sink_now c.run.params c.run.transfers c.run.gaps c.stages c.orders
    (state_after c.run.params c.run.transfers c.run.gaps c.stages c.orders (take number c.run.ready)) (get_or c.run.ready number false)

-- the rows of so many cycles from this one on
abbrev pub sink_rows : List ChainRun → (number many : ℕ) → List Cycle
sink_rows chains number zero = []
sink_rows chains number (suc many) = map (sink_row number) chains ++ sink_rows chains (suc number) many

-- the same without the rows of so many streams of the first of these cycles
abbrev pub sink_rows_after : List ChainRun → (stream number many : ℕ) → List Cycle
sink_rows_after chains stream number zero = []
sink_rows_after chains stream number (suc many) = map (sink_row number) (drop stream chains) ++ sink_rows chains (suc number) many

-- how many transfers of each stream are not at its sink after all cycles
abbrev pub left_of_chains : List ChainRun → List ℕ
left_of_chains chains =
    map (λ (c : ChainRun). left_in c.run.params c.run.transfers c.run.gaps c.stages (state_after c.run.params c.run.transfers c.run.gaps c.stages c.orders c.run.ready)) chains
