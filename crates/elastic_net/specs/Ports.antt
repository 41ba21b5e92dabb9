-- Where the chains of a port stand (this project's own).
use Rattle.std.specs.Prelude.{◌≡◌, ℕ, suc, ◌+◌, ◌-◌, ◌^◌, ◌<◌, Bool, min, List, [], ◌∷◌, length, map, take, slice_get, Some}
use Rattle.physical_stream.specs.declared.transfer.Transfer.{Transfer}
use Rattle.handshake.specs.Ports.{cycles_made}
use Rattle.handshake.specs.Rows.{StreamRun}
use Rattle.handshake.specs.declared.feed.TransferFeed.{Ghosts}
use Rattle.elastic_net.specs.Nets.{ChainRun, chains_of, components_of}
use Rattle.elastic_net.specs.Orders.{own_order}
use Rattle.elastic_net.specs.Sinks.{state_after}
use Rattle.elastic_net.specs.States.{first_state}
use Rattle.elastic_net.specs.Standing.{KeepChain, StandsFor}
use Rattle.elastic_net.specs.declared.chain.Chain.{Chain}

module _ {F : Type 0} {T : Ghosts F} where
  -- the capacities of the stages of each chain
  abbrev pub stages_in : List (Chain F T) → List (List ℕ)
  stages_in [] = []
  stages_in (c ∷ chains) = c.stages ∷ stages_in chains

  -- the number of the first component of a stream
  abbrev pub first_component : List (Chain F T) → (stream : ℕ) → ℕ
  first_component chains stream = components_of (take stream (stages_in chains))

  -- the orders of the components of one stream, whose first component has this number
  abbrev pub orders_own : Chain F T → (first : ℕ) → (orders : List (List ℕ)) → List (List ℕ)
  orders_own c first orders = map (own_order first (suc (length c.stages))) orders

  -- the same of each of the chains of a port, and their stages and gaps
  pub record KeepChains (whole : F → List Transfer) (old new : List (Chain F T)) : Type 0 where
    pub many : length new ≡ length old
    pub each : (i : ℕ) (before after : Chain F T) → slice_get old i ≡ Some before → slice_get new i ≡ Some after → KeepChain whole before after

  module _ (rest whole : F → List Transfer) where
    -- the streams of a port, by their chains and ready bits
    abbrev pub chain_runs : List (Chain F T) → List (List Bool) → List StreamRun
    chain_runs [] ready = []
    chain_runs (c ∷ chains) [] = []
    chain_runs (c ∷ chains) (bits ∷ ready) = record { params = c.params; transfers = whole c.feed; gaps = c.gaps; ready = bits } ∷ chain_runs chains ready

    -- the elastic net of a port
    abbrev pub net_in : List (Chain F T) → List (List Bool) → (orders : List (List ℕ)) → List ChainRun
    net_in chains ready orders = chains_of (chain_runs chains ready) (stages_in chains) orders

    -- each chain stands for the state of all transfers of its feed after the cycles that it made: the row of this stream in the cycle of this
    -- number is next, its first component has that number, and with this cycle so many are left
    pub record AreAt (chains : List (Chain F T)) (ready : List (List Bool)) (orders : List (List ℕ)) (number many stream first : ℕ) : Type 0 where
      pub same : length chains ≡ length ready
      pub within : 0 < length chains → stream < length chains
      pub over : many ≡ 0 → stream ≡ 0
      pub first_is : first ≡ min (first_component chains stream) (2 ^ 64 - 1)
      pub long : (i : ℕ) (bits : List Bool) → slice_get ready i ≡ Some bits → length bits ≡ number + many
      pub stands : (i : ℕ) (c : Chain F T) (bits : List Bool) → slice_get chains i ≡ Some c → slice_get ready i ≡ Some bits
          → StandsFor rest c (whole c.feed) (state_after c.params (whole c.feed) c.gaps c.stages (orders_own c (first_component chains i) orders) (take (cycles_made number stream i) bits))

    -- each chain stands for the first state of all transfers of its feed
    pub record AreFirst (chains : List (Chain F T)) : Type 0 where
      pub each : (i : ℕ) (c : Chain F T) → slice_get chains i ≡ Some c → StandsFor rest c (whole c.feed) (first_state (whole c.feed))
