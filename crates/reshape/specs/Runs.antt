-- Where a run through a reshaper stands (this project's own).
use Rattle.std.specs.Prelude.{◌≡◌, ℕ, ◌≤◌, Bool, if◌then◌else◌, List, [], ◌∷◌, ◌++◌, length, take, Option, Some, None}
use Rattle.physical_stream.specs.Params.{Parameters}
use Rattle.physical_stream.specs.Cycles.{Cycle, items_done}
use Rattle.physical_stream.specs.Items.{items_of_all}
use Rattle.physical_stream.specs.declared.transfer.Transfer.{Transfer}
use Rattle.handshake.specs.Standing.{StandsFor}
use Rattle.handshake.specs.declared.cursor.Cursor.{Cursor}
use Rattle.handshake.specs.declared.feed.TransferFeed.{Ghosts}
use Rattle.scheduler.specs.Planned.{plan_of}
use Rattle.reshape.specs.Reshaping.{Sides, far_of, has_ended, is_due, near_cycles, sides_of, undone_far}
use Rattle.reshape.specs.Standing.{buffer_in, from_of, to_of}
use Rattle.reshape.specs.declared.reshaper.Reshaper.{Reshaper}
use Rattle.reshape.specs.declared.turn.Turn.{Turn}

module _ {F : Type 0} {T : Ghosts F} (whole : F → List Transfer) where
  -- the two sides after so many cycles, where all transfers of the feed go through this reshaper under these far ready bits
  abbrev pub sides_at : Cursor F T → Reshaper → List Bool → ℕ → Sides
  sides_at near reshaper ready number = sides_of near.params (to_of reshaper) (whole near.feed) near.gaps (take number ready)

  -- how many transfers the far side has
  abbrev pub far_of_all : Cursor F T → Reshaper → ℕ
  far_of_all near reshaper = length (plan_of (to_of reshaper) [] [] (items_of_all near.params (whole near.feed)))

  -- all cycles of the far side
  abbrev pub far_in : Cursor F T → Reshaper → List Bool → List Cycle
  far_in near reshaper ready = far_of near.params (to_of reshaper) (whole near.feed) near.gaps ready

  -- how many transfers of the far side are not done after all cycles
  abbrev pub undone_in : Cursor F T → Reshaper → List Bool → ℕ
  undone_in near reshaper ready = undone_far near.params (to_of reshaper) (whole near.feed) near.gaps ready

module _ {F : Type 0} {T : Ghosts F} (rest : F → List Transfer) where
  -- the near side stands for its run so far of these transfers with these gaps, and the reshaper has the items that went in and did not go out
  pub record IsAtOf (p to : Parameters) (ts : List Transfer) (gaps : List ℕ) (near : Cursor F T) (reshaper : Reshaper) (ready : List Bool) (number : ℕ) : Type 0 where
    pub within : number ≤ length ready
    pub from : from_of reshaper ≡ p
    pub stands : StandsFor rest near ts (sides_of p to ts gaps (take number ready)).near
    pub items : items_done to (sides_of p to ts gaps (take number ready)).far ++ buffer_in reshaper ≡ items_done p (near_cycles p to ts gaps (sides_of p to ts gaps (take number ready)))
    pub due : is_due to reshaper.ended (buffer_in reshaper) ≡ is_due to (has_ended p to ts gaps (sides_of p to ts gaps (take number ready))) (buffer_in reshaper)

module _ {F : Type 0} {T : Ghosts F} (rest whole : F → List Transfer) where
  -- the same of all transfers of the feed
  abbrev pub IsAt : Cursor F T → Reshaper → List Bool → ℕ → Type 0
  IsAt near reshaper ready number = IsAtOf rest near.params (to_of reshaper) (whole near.feed) near.gaps near reshaper ready number

-- the turn makes the first of these cycles, where there is one
abbrev pub FirstTurn : List Cycle → Transfer → Option Turn → Type 0
FirstTurn [] shown None = Unit {0}
FirstTurn [] shown (Some turn) = ⊥
FirstTurn (row ∷ rows) shown None = ⊥
FirstTurn (row ∷ rows) shown (Some turn) = row ≡ record { ready = turn.ready; shown = if turn.shows then Some shown else None }
