-- A row of a port, and a port that begins again (this project's own).
use Rattle.std.specs.Prelude.{◌≡◌, ℕ, List, [], ◌∷◌, length, slice_get, Option, Some, None, if◌then◌else◌}
use Rattle.physical_stream.specs.Cycles.{Cycle}
use Rattle.physical_stream.specs.declared.transfer.Transfer.{Transfer}
use Rattle.handshake.specs.Standing.{StandsFor}
use Rattle.handshake.specs.declared.cursor.Cursor.{Cursor}
use Rattle.handshake.specs.declared.feed.TransferFeed.{Ghosts}
use Rattle.handshake.specs.declared.turn.Turn.{Turn}

module _ {F : Type 0} {T : Ghosts F} where
  -- the row that a turn makes, by what the cursor of its stream holds
  pub record Makes (row : Cycle) (cursors : List (Cursor F T)) (turn : Turn) : Type 0 where
    pub cursor : Cursor F T
    pub there : slice_get cursors turn.stream ≡ Some cursor
    pub is : row ≡ record { ready = turn.ready; shown = if turn.shows then Some cursor.held else None }

  -- the turn makes the first of the rows, where there is one
  abbrev pub FirstTurn : List Cycle → List (Cursor F T) → Option Turn → Type 0
  FirstTurn [] cursors None = Unit {0}
  FirstTurn [] cursors (Some turn) = ⊥
  FirstTurn (row ∷ rows) cursors None = ⊥
  FirstTurn (row ∷ rows) cursors (Some turn) = Makes row cursors turn

  module _ (whole : F → List Transfer) where
    -- two cursors have one stream, the same gaps and feeds of the same transfers
    pub record KeepRun (old new : Cursor F T) : Type 0 where
      pub params : new.params ≡ old.params
      pub gaps : new.gaps ≡ old.gaps
      pub all : whole new.feed ≡ whole old.feed

    -- the same of each of the cursors of a port
    pub record KeepRuns (old new : List (Cursor F T)) : Type 0 where
      pub many : length new ≡ length old
      pub each : (i : ℕ) (before after : Cursor F T) → slice_get old i ≡ Some before → slice_get new i ≡ Some after → KeepRun before after

    -- each cursor stands before the first cycle of the run of all its transfers
    pub record AreRewound (rest : F → List Transfer) (cursors : List (Cursor F T)) : Type 0 where
      pub each : (i : ℕ) (c : Cursor F T) → slice_get cursors i ≡ Some c → StandsFor rest c (whole c.feed) []
