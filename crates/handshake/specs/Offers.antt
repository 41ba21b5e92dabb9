-- The transfers of a stream, one after another, each with the gap before it (this project's own).
use Rattle.std.specs.Prelude.{◌≡◌, ℕ, ◌-◌, true, false, List, [], ◌∷◌, length, map, take, slice_get, Option, Some, None}
use Rattle.physical_stream.specs.Params.{Parameters}
use Rattle.physical_stream.specs.Cycles.{Cycle}
use Rattle.physical_stream.specs.declared.transfer.Transfer.{Transfer}
use Rattle.handshake.specs.Run.{gap_of}
use Rattle.handshake.specs.Standing.{Follows}
use Rattle.handshake.specs.declared.cursor.Cursor.{Cursor}
use Rattle.handshake.specs.declared.feed.TransferFeed.{Ghosts}

-- cycles that do these transfers, one after another without a pause
abbrev pub offered : List Transfer → List Cycle
offered ts = map (λ (t : Transfer). record { ready = true; shown = Some t }) ts

-- the transfers before those that are left at the end
abbrev pub taken_before : (all left : List Transfer) → List Transfer
taken_before all left = take (length all - length left) all

-- the first of the transfers that are left is given after the gap of its number, and is left no more; or none is left
abbrev pub Offers : Parameters → (ts : List Transfer) → (gaps : List ℕ) → (old new : List Transfer) → Transfer → Option ℕ → Type 0
Offers p ts gaps [] new held given = (given ≡ None) × (new ≡ [])
Offers p ts gaps (t ∷ more) new held given = (given ≡ Some (gap_of p ts gaps (length ts - length (t ∷ more)))) × ((held ≡ t) × (new ≡ more))

module _ {F : Type 0} {T : Ghosts F} (rest : F → List Transfer) where
  -- a cursor stands before the transfers that are left in its feed: those before them were taken, and it holds none
  pub record StandsBefore (c : Cursor F T) (ts : List Transfer) : Type 0 where
    pub free : c.holds ≡ false
    pub follows : Follows rest c ts (offered (taken_before ts (rest c.feed)))

  -- each cursor stands before the transfers of its feed that are left
  abbrev pub AreBefore : (F → List Transfer) → List (Cursor F T) → Type 0
  AreBefore whole cursors = (i : ℕ) (c : Cursor F T) → slice_get cursors i ≡ Some c → StandsBefore c (whole c.feed)

  -- a cursor stands before all transfers of its feed
  pub record StandsFirst (whole : F → List Transfer) (c : Cursor F T) : Type 0 where
    pub before : StandsBefore c (whole c.feed)
    pub all : rest c.feed ≡ whole c.feed

  -- so does each cursor
  abbrev pub AreFirst : (F → List Transfer) → List (Cursor F T) → Type 0
  AreFirst whole cursors = (i : ℕ) (c : Cursor F T) → slice_get cursors i ≡ Some c → StandsFirst whole c
