-- Cycles that show transfers in their order and hold what they show (this project's own).
use Rattle.std.specs.Prelude.{◌≡◌, ℕ, true, List, take, slice_get, Option, Some}
use Rattle.physical_stream.specs.Params.{Parameters}
use Rattle.physical_stream.specs.Cycles.{Cycle, waiting_of}
use Rattle.physical_stream.specs.Counts.{transfers_of}
use Rattle.physical_stream.specs.declared.item.Tail.{Tail}
use Rattle.physical_stream.specs.declared.transfer.Transfer.{Transfer}
use Rattle.complexity_rules.specs.Pauses.{pauses_after}

-- a low valid breaks no rule on pauses, whatever was done before it
abbrev pub PausesAnywhere : Parameters → Type 0
PausesAnywhere p = (tail : Option Tail) → pauses_after p tail ≡ true

-- the first of these transfers that is not done by the cycles, if there is one
abbrev pub next_of : List Transfer → List Cycle → Option Transfer
next_of ts before = slice_get ts (transfers_of before)

-- each cycle shows nothing or the next of these transfers, and a transfer that waits is shown again
pub record IsSteady (ts : List Transfer) (cycles : List Cycle) : Type 0 where
  pub next : (number : ℕ) (now : Cycle) (t : Transfer) → slice_get cycles number ≡ Some now → now.shown ≡ Some t → next_of ts (take number cycles) ≡ Some t
  pub again : (number : ℕ) (now : Cycle) (t : Transfer) → slice_get cycles number ≡ Some now → waiting_of (take number cycles) ≡ Some t → now.shown ≡ Some t
