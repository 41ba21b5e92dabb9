-- The orders that numbers spell (this project's own).
use Rattle.std.specs.Prelude.{◌↔◌, ℕ, zero, suc, Bool, true, ◌==◌, ◌&&◌, nat_lt, List, [], ◌∷◌, IsTrue}
use Rattle.std.specs.List.{list_all, count_by}
use Rattle.physical_stream.specs.Items.{parts_below}
use Rattle.vhdl_meaning.specs.Meaning.{IsOrder}

-- each number below this one stands once in the list
abbrev pub stand_once : ℕ → List ℕ → Bool
stand_once zero order = true
stand_once (suc number) order = stand_once number order && (count_by (λ at. at == number) order == 1)

-- the list is an order of so many processes
abbrev pub is_order : ℕ → List ℕ → Bool
is_order count order = list_all (λ number. nat_lt number count) order && stand_once count order

-- the test decides which lists are orders
abbrev pub OrdersAreTold : Type 0
OrdersAreTold = (count : ℕ) (order : List ℕ) → IsTrue (is_order count order) ↔ IsOrder count order

-- the order 0, 1, 2 and so on of so many processes
abbrev pub text_order : ℕ → List ℕ
text_order count = parts_below (λ number. number ∷ []) count
