-- A row of an elastic run (this project's own).
use Rattle.std.specs.Prelude.{◌≡◌, List, [], ◌∷◌, slice_get, Option, Some, None}
use Rattle.physical_stream.specs.Cycles.{Cycle}
use Rattle.physical_stream.specs.declared.transfer.Transfer.{Transfer}
use Rattle.handshake.specs.declared.feed.TransferFeed.{Ghosts}
use Rattle.elastic_net.specs.States.{ChainState}
use Rattle.elastic_net.specs.Standing.{StandsFor}
use Rattle.elastic_net.specs.declared.chain.Chain.{Chain}
use Rattle.elastic_net.specs.declared.turn.Turn.{Turn}

module _ {F : Type 0} {T : Ghosts F} (rest whole : F → List Transfer) where
  -- the row that a turn makes: what the last component of its stream's chain showed
  pub record Makes (row : Cycle) (chains : List (Chain F T)) (turn : Turn) : Type 0 where
    pub chain : Chain F T
    pub state : ChainState
    pub there : slice_get chains turn.stream ≡ Some chain
    pub stands : StandsFor rest chain (whole chain.feed) state
    pub is : row ≡ record { ready = turn.ready; shown = state.shown }

  -- the turn makes the first of the rows, where there is one
  abbrev pub FirstTurn : List Cycle → List (Chain F T) → Option Turn → Type 0
  FirstTurn [] chains None = Unit {0}
  FirstTurn [] chains (Some turn) = ⊥
  FirstTurn (row ∷ rows) chains None = ⊥
  FirstTurn (row ∷ rows) chains (Some turn) = Makes row chains turn
