-- Ready bits of all streams, one stream after another.
use Rattle.std.proofs.Common.{◌≡◌, ℕ, List, ◌++◌, replicate}

module _ {A : Type 0} (x : A) where
  -- what is made so far, and what is left
  abbrev pub IsMaking : ℕ → List A → ℕ → Type 0
  IsMaking all made left = made ++ replicate left x ≡ replicate all x
