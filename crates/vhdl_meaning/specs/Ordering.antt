-- The numbers of an order that are read so far (this project's own).
use Rattle.std.specs.Prelude.{◌≡◌, ℕ, ◌<◌, ◌≤◌, ◌==◌, Bool, true, false, nat_lt, List, [], ◌∷◌, ◌++◌, ◌⊎◌, length, map, get_or, Result, Ok, Err, if◌then◌else◌, Option, Some, None}
use Rattle.std.specs.List.{list_all, count_by}
use Rattle.tydi_base.specs.Decimal.{is_decimal, read_on}
use Rattle.tydi_base.specs.declared.memory.Memory.{Memory}
use Rattle.vhdl_meaning.specs.Turns.{among}
use Rattle.vhdl_meaning.specs.Orders.{is_order}

-- the numbers are of so many processes, no two of them are the same, and each of them is marked
pub record IsMarked (count : ℕ) (order : List ℕ) (seen : List Bool) : Type 0 where
  pub long : length seen ≡ count
  pub marks : (number : ℕ) → number < count → get_or seen number false ≡ among number order
  pub within : list_all (λ number. nat_lt number count) order ≡ true
  pub apart : (number : ℕ) → count_by (λ at. at == number) order ≤ 1

-- the number was added, or it can't stand behind these numbers in an order
abbrev pub Marks : Result Bool Memory → ℕ → ℕ → List ℕ → List ℕ → List Bool → Type 0
Marks (Err e) count number old new seen = Unit {0}
Marks (Ok true) count number old new seen = (new ≡ old ++ number ∷ []) × IsMarked count new seen
Marks (Ok false) count number old new seen = (count ≤ number) ⊎ (among number old ≡ true)

-- the list, where it is an order of so many processes
abbrev pub order_with : ℕ → List ℕ → Option (List ℕ)
order_with count order = if is_order count order then Some order else None

-- the numbers of the words before these were added
pub record AreAdded (count : ℕ) (words rest : List (List ℕ)) (order : List ℕ) (seen : List Bool) : Type 0 where
  pub numbers : map (read_on 0) words ≡ order ++ map (read_on 0) rest
  pub decimals : list_all is_decimal rest ≡ true
  pub marked : IsMarked count order seen
