-- The greatest of some numbers (this project's own).
use Rattle.std.specs.Prelude.{ℕ, max, List, [], ◌∷◌}

-- the greatest of these numbers
abbrev pub greatest : List ℕ → ℕ
greatest [] = 0
greatest (n ∷ more) = max n (greatest more)
