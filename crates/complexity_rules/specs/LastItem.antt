-- The kind of the last item as one number (this project's own).
use Rattle.std.specs.Prelude.{◌≡◌, ℕ, zero, suc, refl, Option, Some, None}
use Rattle.physical_stream.specs.declared.item.Tail.{Tail}
use Rattle.physical_stream.specs.declared.item.Tail.TheVariants.{Close, Elem}

-- the kind that a number stands for: 0 for none, 1 for an element, and above these a Close of each dimension
abbrev pub kind_of_code : ℕ → Option Tail
kind_of_code zero = None
kind_of_code (suc zero) = Some Elem
kind_of_code (suc (suc dim)) = Some (Close dim)

-- the number of a kind
abbrev pub code_of_kind : Option Tail → ℕ
code_of_kind None = zero
code_of_kind (Some Elem) = suc zero
code_of_kind (Some (Close dim)) = suc (suc dim)

-- the number of the kind that a number stands for is that number
pub code_of-kind : (code : ℕ) → code_of_kind (kind_of_code code) ≡ code
code_of-kind zero = refl
code_of-kind (suc zero) = refl
code_of-kind (suc (suc dim)) = refl
