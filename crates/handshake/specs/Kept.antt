-- The state that is kept of a run (this project's own).
use Rattle.std.specs.Prelude.{◌≡◌, ℕ, ◌-◌, ◌<◌, ◌⊎◌, Bool, true, false, if◌then◌else◌, List, ◌∷◌, length, take, drop, min, slice_index, Option, Some, None, ◌==◌}
use Rattle.physical_stream.specs.Params.{Parameters}
use Rattle.physical_stream.specs.Cycles.{Cycle, done_of, items_done}
use Rattle.physical_stream.specs.Counts.{transfers_of}
use Rattle.physical_stream.specs.Shape.{tail_of}
use Rattle.physical_stream.specs.declared.item.Tail.{Tail}
use Rattle.physical_stream.specs.declared.transfer.Transfer.{Transfer}
use Rattle.handshake.specs.Run.{gap_of, idle_of}
use Rattle.complexity_rules.specs.Pauses.{pauses_after}

-- the transfers that are not done: the one that is held, where one is, and the rest of the feed
abbrev pub left_of : Bool → Transfer → List Transfer → List Transfer
left_of holds held rest = if holds then held ∷ rest else rest

-- the state kept of these cycles of the run of these transfers with these gaps
pub record Keeps (p : Parameters) (ts : List Transfer) (gaps : List ℕ) (cycles : List Cycle) (rest : List Transfer) (holds : Bool) (held : Transfer)
    (pause place : ℕ) (last : Option Tail) : Type 0 where
  pub left : drop (transfers_of cycles) ts ≡ left_of holds held rest
  pub done : done_of cycles ≡ take (transfers_of cycles) ts
  pub count : place ≡ min (transfers_of cycles) (length gaps)
  pub tail : last ≡ tail_of (items_done p cycles)
  pub gap : holds ≡ true → pause ≡ gap_of p ts gaps (transfers_of cycles) - idle_of cycles
  pub fresh : holds ≡ false → 0 < length rest → idle_of cycles ≡ 0

-- the gap that a cursor finds before the next transfer
abbrev pub gap_at : Parameters → List ℕ → ℕ → Option Tail → ℕ
gap_at p gaps place tail = if pauses_after p tail then slice_index gaps place else 0

-- no transfer is shown in the cycle that comes
abbrev pub Rests : Bool → ℕ → Type 0
Rests holds pause = (holds ≡ false) ⊎ (0 < pause)

-- the number of cycles that was found before; else this one, where no transfer is left
abbrev pub finished_by : Option ℕ → (number left : ℕ) → Option ℕ
finished_by (Some earlier) number left = Some earlier
finished_by None number left = if left == 0 then Some number else None
