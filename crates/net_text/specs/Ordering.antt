-- The numbers that are read so far, of an order and of capacities (this project's own).
use Rattle.std.specs.Prelude.{◌≡◌, ℕ, ◌<◌, ◌≤◌, ◌==◌, ◌||◌, Bool, true, false, nat_lt, List, [], ◌∷◌, ◌++◌, ◌⊎◌, length, map, get_or, Option, Some, None, Result, Ok, Err}
use Rattle.std.specs.List.{list_all, count_by}
use Rattle.tydi_base.specs.Decimal.{is_decimal, read_on}
use Rattle.tydi_base.specs.declared.memory.Memory.{Memory}
use Rattle.net_text.specs.Text.{is_capacity}

-- the number is one of these
abbrev pub among : ℕ → List ℕ → Bool
among number [] = false
among number (one ∷ more) = one == number || among number more

-- the numbers are of so many components, no two of them are the same, and each of them is marked
pub record IsMarked (count : ℕ) (order : List ℕ) (seen : List Bool) : Type 0 where
  pub long : length seen ≡ count
  pub marks : (number : ℕ) → number < count → get_or seen number false ≡ among number order
  pub within : list_all (λ number. nat_lt number count) order ≡ true
  pub apart : (number : ℕ) → count_by (λ at. at == number) order ≤ 1

-- the number was added, or it can't stand behind these numbers in an order
abbrev pub Marks : Result Bool Memory → ℕ → ℕ → List ℕ → List ℕ → List Bool → Type 0
Marks (Err e) count number old new seen = Unit {0}
Marks (Ok true) count number old new seen = (new ≡ old ++ number ∷ []) × IsMarked count new seen
Marks (Ok false) count number old new seen = (count ≤ number) ⊎ (among number old ≡ true)

-- the numbers of the words before these were added to an order
pub record AreAdded (count : ℕ) (words rest : List (List ℕ)) (order : List ℕ) (seen : List Bool) : Type 0 where
  pub numbers : map (read_on 0) words ≡ order ++ map (read_on 0) rest
  pub decimals : list_all is_decimal rest ≡ true
  pub marked : IsMarked count order seen

-- the numbers of the words before these are capacities
pub record AreCapacities (words rest : List (List ℕ)) (found : List ℕ) : Type 0 where
  pub numbers : map (read_on 0) words ≡ found ++ map (read_on 0) rest
  pub decimals : list_all is_decimal rest ≡ true
  pub within : list_all is_capacity found ≡ true

-- this number, where it is a capacity
abbrev pub CapacityOr : ℕ → Option ℕ → Type 0
CapacityOr number None = is_capacity number ≡ false
CapacityOr number (Some capacity) = (capacity ≡ number) × (is_capacity number ≡ true)
