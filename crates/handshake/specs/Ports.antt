-- Where the cursors of a port stand (this project's own).
use Rattle.std.specs.Prelude.{◌≡◌, ℕ, ◌+◌, ◌<◌, Bool, nat_lt, if◌then◌else◌, List, [], ◌∷◌, length, take, slice_get, Some}
use Rattle.physical_stream.specs.declared.transfer.Transfer.{Transfer}
use Rattle.handshake.specs.Rows.{StreamRun}
use Rattle.handshake.specs.Standing.{StandsFor}
use Rattle.handshake.specs.declared.cursor.Cursor.{Cursor}
use Rattle.handshake.specs.declared.feed.TransferFeed.{Ghosts}

-- how many cycles a stream has made where the row of another is next in a cycle of this number
abbrev pub cycles_made : (number stream i : ℕ) → ℕ
cycles_made number stream i = if nat_lt i stream then number + 1 else number

module _ {F : Type 0} {T : Ghosts F} (rest whole : F → List Transfer) where
  -- the streams of a port, by their cursors and ready bits
  abbrev pub runs_in : List (Cursor F T) → List (List Bool) → List StreamRun
  runs_in [] ready = []
  runs_in (c ∷ cursors) [] = []
  runs_in (c ∷ cursors) (bits ∷ ready) = record { params = c.params; transfers = whole c.feed; gaps = c.gaps; ready = bits } ∷ runs_in cursors ready

  -- each cursor stands for the run of all transfers of its feed under the ready bits of the cycles that it made: the row of this stream in the cycle
  -- of this number is next, and with this one so many cycles are left
  pub record AreAt (cursors : List (Cursor F T)) (ready : List (List Bool)) (number many stream : ℕ) : Type 0 where
    pub same : length cursors ≡ length ready
    pub within : 0 < length cursors → stream < length cursors
    pub over : many ≡ 0 → stream ≡ 0
    pub long : (i : ℕ) (bits : List Bool) → slice_get ready i ≡ Some bits → length bits ≡ number + many
    pub stands : (i : ℕ) (c : Cursor F T) (bits : List Bool) → slice_get cursors i ≡ Some c → slice_get ready i ≡ Some bits → StandsFor rest c (whole c.feed) (take (cycles_made number stream i) bits)
