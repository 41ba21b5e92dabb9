-- The cycles at the sink of a chain (this project's own).
use Rattle.std.specs.Prelude.{ℕ, suc, ◌-◌, Bool, List, [], ◌∷◌, length}
use Rattle.physical_stream.specs.Params.{Parameters}
use Rattle.physical_stream.specs.Cycles.{Cycle}
use Rattle.physical_stream.specs.declared.transfer.Transfer.{Transfer}
use Rattle.elastic_net.specs.Orders.{order_in}
use Rattle.elastic_net.specs.States.{act_of, beyond, ChainState, first_state, next_cycle_of, step_of}

module _ (p : Parameters) (ts : List Transfer) (gaps : List ℕ) (stages : List ℕ) where
  -- the state once components have acted one after another, in this order
  abbrev pub acts_of : (order : List ℕ) → (ready : Bool) → ChainState → ChainState
  acts_of [] ready s = s
  acts_of (component ∷ order) ready s = acts_of order ready (act_of p ts gaps stages component ready s)

  -- the cycle at the sink: what the last component shows when it acts, with this ready bit
  abbrev pub sink_cycle : (order : List ℕ) → (ready : Bool) → ChainState → Cycle
  sink_cycle order ready s = record { ready = ready; shown = (acts_of order ready s).shown }

  -- the state after a cycle in this order
  abbrev pub state_next : (order : List ℕ) → (ready : Bool) → ChainState → ChainState
  state_next order ready s = next_cycle_of (acts_of order ready s)

  -- the state after a step of each component of this order
  abbrev pub steps_of : (order : List ℕ) → (ready : Bool) → ChainState → ChainState
  steps_of [] ready s = s
  steps_of (component ∷ order) ready s = steps_of order ready (step_of p ts gaps stages component ready s)

  module _ (orders : List (List ℕ)) where
    -- the order of the cycle that runs
    abbrev pub order_now : ChainState → List ℕ
    order_now s = order_in (suc (length stages)) orders s.cycle

    -- the cycle at the sink that comes, and the state after it
    abbrev pub sink_now : ChainState → Bool → Cycle
    sink_now s bit = sink_cycle (order_now s) bit s

    abbrev pub state_behind : ChainState → Bool → ChainState
    state_behind s bit = state_next (order_now s) bit s

    -- the state after a cycle for each ready bit
    abbrev pub state_from : ChainState → List Bool → ChainState
    state_from s [] = s
    state_from s (bit ∷ bits) = state_from (state_behind s bit) bits

    -- the cycles at the sink, one for each ready bit
    abbrev pub sink_from : ChainState → List Bool → List Cycle
    sink_from s [] = []
    sink_from s (bit ∷ bits) = sink_now s bit ∷ sink_from (state_behind s bit) bits

    -- the same from the first cycle on
    abbrev pub state_after : List Bool → ChainState
    state_after ready = state_from (first_state ts) ready

    abbrev pub sink_cycles : List Bool → List Cycle
    sink_cycles ready = sink_from (first_state ts) ready

  -- how many transfers are at the sink in a state, and how many are not
  abbrev pub at_sink : ChainState → ℕ
  at_sink s = beyond (length stages) s.numbers

  abbrev pub left_in : ChainState → ℕ
  left_in s = length ts - at_sink s
