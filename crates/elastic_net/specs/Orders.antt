-- The orders in which components act (this project's own).
use Rattle.std.specs.Prelude.{◌≡◌, ℕ, zero, suc, ◌+◌, ◌-◌, ◌<◌, ◌&&◌, ◌==◌, Bool, nat_le, nat_lt, if◌then◌else◌, List, [], ◌∷◌, map, filter, get_or}
use Rattle.std.specs.List.{All}

-- how often a number stands in a list
abbrev pub how_many : ℕ → List ℕ → ℕ
how_many number [] = 0
how_many number (n ∷ numbers) = if n == number then suc (how_many number numbers) else how_many number numbers

-- so many numbers from this one on
abbrev pub count_from : (first many : ℕ) → List ℕ
count_from first zero = []
count_from first (suc many) = first ∷ count_from (suc first) many

-- an order of so many components: each of them stands in it once, and nothing else
pub record IsOrder (many : ℕ) (order : List ℕ) : Type 0 where
  pub within : All (λ component. component < many) order
  pub once : (component : ℕ) → component < many → how_many component order ≡ 1

-- the order of a cycle: the one of its number, and past the end of the orders 0, 1, 2 and so on
abbrev pub order_in : (many : ℕ) → (orders : List (List ℕ)) → (cycle : ℕ) → List ℕ
order_in many orders cycle = get_or orders cycle (count_from 0 many)

-- a component is one of so many from the first on
abbrev pub is_among : (first many component : ℕ) → Bool
is_among first many component = nat_le first component && nat_lt component (first + many)

-- the order among so many components from the first on, in an order of all components: these are counted from 0
abbrev pub own_order : (first many : ℕ) → List ℕ → List ℕ
own_order first many order = map (λ (component : ℕ). component - first) (filter (is_among first many) order)
