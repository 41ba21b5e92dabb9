-- The letters by which states are kept (IEEE 1364).
use Rattle.std.specs.Prelude.{◌≡◌, ℕ, Bool, true, false, List, map, Option, Some, None}
use Rattle.vcd_read.specs.declared.state.State.{State}
use Rattle.vcd_read.specs.declared.state.State.TheVariants as states

abbrev pub letter_of : State → ℕ
letter_of states.Low = 48
letter_of states.High = 49
letter_of states.Unknown = 120
letter_of states.Floating = 122

-- the states are kept, or there are none
abbrev pub ReadsStates : Bool → Option (List State) → List ℕ → Type 0
ReadsStates true (Some found) kept = kept ≡ map letter_of found
ReadsStates true None kept = ⊥
ReadsStates false (Some found) kept = ⊥
ReadsStates false None kept = Unit {0}
