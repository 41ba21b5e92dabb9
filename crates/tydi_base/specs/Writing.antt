-- Texts as they are written, part after part. This project's own.
use Rattle.std.specs.Prelude.{◌≡◌, ℕ, List, length, take}

-- the old bytes still stand in front of the new ones
abbrev pub StandsInFront : List ℕ → List ℕ → Type 0
StandsInFront old new = take (length old) new ≡ old
