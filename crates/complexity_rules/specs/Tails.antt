-- Tails of streams of so many dimensions (this project's own).
use Rattle.std.specs.Prelude.{◌≡◌, ℕ, ◌<◌, Option, Some}
use Rattle.physical_stream.specs.declared.item.Tail.{Tail}
use Rattle.physical_stream.specs.declared.item.Tail.TheVariants.{Close}

-- the last Close is one of so many dimensions
abbrev pub IsTailIn : ℕ → Option Tail → Type 0
IsTailIn dims tail = (dim : ℕ) → tail ≡ Some (Close dim) → dim < dims
