-- The orders of the components of a net (this project's own).
use Rattle.std.specs.Prelude.{◌≡◌, ℕ, zero, suc, ◌+◌, ◌<◌, Bool, true, ◌==◌, ◌&&◌, nat_lt, List, [], ◌∷◌, ◌++◌, length, get_or, Option, Some, None, if◌then◌else◌, All}
use Rattle.std.specs.List.{list_all, count_by, sum_by}

-- an order of so many components: each of them stands in it once, and no other number does
pub record IsOrder (count : ℕ) (order : List ℕ) : Type 0 where
  pub once : (number : ℕ) → number < count → count_by (λ at. at == number) order ≡ 1
  pub within : All (λ number. number < count) order

-- each number below this one stands once in the list
abbrev pub stand_once : ℕ → List ℕ → Bool
stand_once zero order = true
stand_once (suc number) order = stand_once number order && (count_by (λ at. at == number) order == 1)

-- the list is an order of so many components
abbrev pub is_order : ℕ → List ℕ → Bool
is_order count order = list_all (λ number. nat_lt number count) order && stand_once count order

-- the list, where it is an order of so many components
abbrev pub order_with : ℕ → List ℕ → Option (List ℕ)
order_with count order = if is_order count order then Some order else None

-- the order 0, 1, 2 and so on of so many components
abbrev pub text_order : ℕ → List ℕ
text_order zero = []
text_order (suc count) = text_order count ++ count ∷ []

-- how many components streams with these stages have: for each stream its source and its stages
abbrev pub components_in : List (List ℕ) → ℕ
components_in stages = length stages + sum_by length stages

-- the order of the cycle of this number, by the orders of the first cycles: past them it is 0, 1, 2 and so on
abbrev pub order_in : ℕ → List (List ℕ) → ℕ → List ℕ
order_in count orders cycle = get_or orders cycle (text_order count)
