-- What is kept of the signals of the scope (this project's own).
use Rattle.std.specs.Prelude.{◌≡◌, ℕ, Bool, ◌==◌, ◌&&◌, if◌then◌else◌, List, [], ◌∷◌, ◌++◌, length, slice_get, Option, Some, None, codes}
use Rattle.std.specs.Str.{bytes_eq}
use Rattle.vcd_read.specs.History.{Part, clock_in, signal_in}
use Rattle.vcd_read.specs.Numbers.{number_of}
use Rattle.vcd_read.specs.declared.variables.Variables.{Variables}

-- a code has this number
pub record HasNumber (codes : List (List ℕ)) (found : Option (List ℕ)) (number : ℕ) : Type 0 where
  pub code : List ℕ
  pub found_is : found ≡ Some code
  pub numbered : number_of codes code ≡ Some number

-- the code of a signal is that of this number; there is none where there is no number
abbrev pub IsNumbered : List (List ℕ) → Option (List ℕ) → Option ℕ → Type 0
IsNumbered codes found None = found ≡ None
IsNumbered codes found (Some number) = HasNumber codes found number

-- the signal of the name of this place has the code of the number that is kept there
abbrev pub IsSignal : List (List ℕ) → List ℕ → Option (List ℕ) → Option ℕ → Type 0
IsSignal codes numbers found None = found ≡ None
IsSignal codes numbers found (Some place) = (number : ℕ) × ((slice_get numbers place ≡ Some number) × HasNumber codes found number)

-- the signals of this scope and its clock, as they are kept
pub record AreVariables (codes : List (List ℕ)) (scope : List (List ℕ)) (names : List (List ℕ)) (numbers : List ℕ) (clock : Option ℕ)
    (parts : List Part) : Type 0 where
  pub long : length numbers ≡ length names
  pub each : (name : List ℕ) → IsSignal codes numbers (signal_in scope name parts) (number_of names name)
  pub clock_is : IsNumbered codes (clock_in scope parts) clock

-- the number of the clock, where a signal may be it
abbrev pub clock_with : Option ℕ → Bool → ℕ → Option ℕ
clock_with (Some before) test number = Some before
clock_with None test number = if test then Some number else None

-- a signal of this name and width is a clock
abbrev pub is_clock : List ℕ → ℕ → Bool
is_clock name width = bytes_eq name (codes "clk") && width == 1

-- names and numbers stay where the name is there, and else have these at their ends
abbrev pub HasName : Option ℕ → (names : List (List ℕ)) → (numbers : List ℕ) → Variables → List ℕ → ℕ → Type 0
HasName (Some place) names numbers after name number = (after.names ≡ names) × (after.numbers ≡ numbers)
HasName None names numbers after name number = (after.names ≡ names ++ name ∷ []) × (after.numbers ≡ numbers ++ number ∷ [])

abbrev pub StandFor : List (List ℕ) → List (List ℕ) → Variables → List Part → Type 0
StandFor codes scope variables parts = AreVariables codes scope variables.names variables.numbers variables.clock parts
