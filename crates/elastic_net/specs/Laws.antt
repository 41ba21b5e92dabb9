-- The laws of elastic chains, under every list of orders and of ready bits (this project's own).
use Rattle.std.specs.Prelude.{◌≡◌, ℕ, suc, ◌+◌, ◌*◌, ◌<◌, ◌≤◌, Bool, List, [], length, map, take, slice_get, slice_index, Some}
use Rattle.physical_stream.specs.Params.{Parameters}
use Rattle.physical_stream.specs.Counts.{transfers_of}
use Rattle.physical_stream.specs.Cycles.{Cycle, done_of}
use Rattle.physical_stream.specs.declared.transfer.Transfer.{Transfer}
use Rattle.handshake.specs.Laws.{gaps_below, ones_in}
use Rattle.handshake.specs.Run.{run_of}
use Rattle.steady_run.specs.Steady.{IsSteady}
use Rattle.elastic_net.specs.Nets.{ChainRun, cycles_of, sink_row}
use Rattle.elastic_net.specs.Orders.{IsOrder, how_many}
use Rattle.elastic_net.specs.Sinks.{left_in, sink_cycles, state_after, state_next, steps_of}
use Rattle.elastic_net.specs.Standing.{AreFalling}
use Rattle.elastic_net.specs.States.{ChainState, act_of, beyond, first_state}

-- each order is one of so many components
abbrev pub OrdersAreOf : (many : ℕ) → (orders : List (List ℕ)) → Type 0
OrdersAreOf many orders = (number : ℕ) (order : List ℕ) → slice_get orders number ≡ Some order → IsOrder many order

-- each stage has room for a transfer
abbrev pub HaveRoom : (stages : List ℕ) → Type 0
HaveRoom stages = (stage : ℕ) → stage < length stages → 1 ≤ slice_index stages stage

-- a sound state: a transfer has gone no further than those before it, so that those at the sink are a front of those that were sent, and
-- these a front of all; and no stage holds more than its capacity
pub record IsSound (ts : List Transfer) (stages numbers : List ℕ) : Type 0 where
  pub many : length numbers ≡ length ts
  pub falling : AreFalling (suc (length stages)) numbers
  pub room : (stage : ℕ) → stage < length stages → how_many (suc stage) numbers ≤ slice_index stages stage

-- a chain is sound before its first step, and every act of a component keeps it so
abbrev pub ActsKeepSound : Type 0
ActsKeepSound =
    ((p : Parameters) (ts : List Transfer) (gaps stages : List ℕ) → IsSound ts stages (first_state ts).numbers)
    × ((p : Parameters) (ts : List Transfer) (gaps stages : List ℕ) (component : ℕ) (ready : Bool) (s : ChainState) → component ≤ length stages → IsSound ts stages s.numbers
    → IsSound ts stages (act_of p ts gaps stages component ready s).numbers)

-- what holds after the cycles of a chain: the state is sound; the transfers done at the sink are those that are at the sink, a front of
-- those that were sent, and these a front of all
pub record IsDelivered (ts : List Transfer) (stages : List ℕ) (s : ChainState) (cycles : List Cycle) : Type 0 where
  pub sound : IsSound ts stages s.numbers
  pub count : transfers_of cycles ≡ beyond (length stages) s.numbers
  pub done : done_of cycles ≡ take (beyond (length stages) s.numbers) ts
  pub behind : beyond (length stages) s.numbers ≤ beyond 0 s.numbers
  pub within : beyond 0 s.numbers ≤ length ts

abbrev pub SinksDeliver : Type 0
SinksDeliver = (p : Parameters) (ts : List Transfer) (gaps stages : List ℕ) (orders : List (List ℕ)) (ready : List Bool) → OrdersAreOf (suc (length stages)) orders
    → IsDelivered ts stages (state_after p ts gaps stages orders ready) (sink_cycles p ts gaps stages orders ready)

-- the cycles at the sink are steady: each shows nothing or the first transfer that is not done, and what waits is shown again
abbrev pub SinksAreSteady : Type 0
SinksAreSteady = (p : Parameters) (ts : List Transfer) (gaps stages : List ℕ) (orders : List (List ℕ)) (ready : List Bool) → OrdersAreOf (suc (length stages)) orders
    → IsSteady ts (sink_cycles p ts gaps stages orders ready)

-- they have the ready bits of the sink
abbrev pub SinksAreReady : Type 0
SinksAreReady = (p : Parameters) (ts : List Transfer) (gaps stages : List ℕ) (orders : List (List ℕ)) (ready : List Bool)
    → map (λ (c : Cycle). c.ready) (sink_cycles p ts gaps stages orders ready) ≡ ready

-- the row of each number is the cycle of that number
abbrev pub RowsAreCycles : Type 0
RowsAreCycles = (c : ChainRun) (number : ℕ) → number < length c.run.ready → slice_get (cycles_of c) number ≡ Some (sink_row number c)

-- no transfer is left where as many ready bits are 1 as there are moves of all components and cycles of effective gaps
abbrev pub SinksFinish : Type 0
SinksFinish = (p : Parameters) (ts : List Transfer) (gaps stages : List ℕ) (orders : List (List ℕ)) (ready : List Bool) → OrdersAreOf (suc (length stages)) orders → HaveRoom stages
    → suc (length stages) * length ts + gaps_below p ts gaps (length ts) ≤ ones_in ready → left_in p ts gaps stages (state_after p ts gaps stages orders ready) ≡ 0

-- a step of each component, in an order of all of them, is a cycle: the last of these steps begins the next one
abbrev pub OrdersAreSteps : Type 0
OrdersAreSteps = (p : Parameters) (ts : List Transfer) (gaps stages : List ℕ) (order : List ℕ) (ready : Bool) (s : ChainState) → IsOrder (suc (length stages)) order → s.acted ≡ []
    → steps_of p ts gaps stages order ready s ≡ state_next p ts gaps stages order ready s

-- a chain without stages is the run of its source
abbrev pub NoStagesAreRuns : Type 0
NoStagesAreRuns = (p : Parameters) (ts : List Transfer) (gaps : List ℕ) (orders : List (List ℕ)) (ready : List Bool) → OrdersAreOf 1 orders
    → sink_cycles p ts gaps [] orders ready ≡ run_of p ts gaps ready
