-- The draws of a generator (a linear congruential generator; this project's own).
use Rattle.std.specs.Prelude.{ℕ, zero, suc, ◌+◌, ◌*◌, ◌/◌, ◌%◌, ◌≡◌, Bool, List, [], ◌∷◌, ◌++◌, take, Result, IfOk}
use Rattle.tydi_base.specs.Bits.{bits_of}

-- the draw after this one; draws are below 65,536
abbrev pub draw_after : ℕ → ℕ
draw_after last = (25173 * last + 13849) % 65536

-- a thing that draws make, and the last draw
pub record Drawn (A : Type 0) : Type 0 where
  pub made : A
  pub last : ℕ

-- what makes a thing by draws, after the last one
abbrev pub Maker : Type 0 → Type 0
Maker A = ℕ → Drawn A

-- a thing that takes no draw
abbrev pub pure : {A : Type 0} → A → Maker A
pure made last = record { made = made; last = last }

-- a thing, and one that is made of it by the draws after it
abbrev pub and_then : {A B : Type 0} → Drawn A → (A → Maker B) → Drawn B
and_then one next = next one.made one.last

-- a thing that needs no draws of its own
abbrev pub made_by : {A B : Type 0} → (A → B) → Drawn A → Drawn B
made_by f one = record { made = f one.made; last = one.last }

-- what is made is this, where there is memory for it
abbrev pub Makes : {A E : Type 0} → Drawn A → Result A E → ℕ → Type 0
Makes one result last = IfOk result (λ made. one ≡ record { made = made; last = last })

-- the bits of so many draws above those that are found, each with 16 bits
abbrev pub bits_from : ℕ → List Bool → Maker (List Bool)
bits_from zero found last = pure found last
bits_from (suc count) found last = bits_from count (found ++ bits_of 16 (draw_after last)) (draw_after last)

-- the word of this width: the first draw has its lowest bits, and bits above the width are dropped
abbrev pub word_drawn : ℕ → Maker (List Bool)
word_drawn width last = made_by (take width) (bits_from ((width + 15) / 16) [] last)

-- so many things, behind those that are found
abbrev pub times : {A : Type 0} → ℕ → Maker A → List A → Maker (List A)
times zero item found last = pure found last
times (suc count) item found last = and_then (item last) (λ one. times count item (found ++ one ∷ []))
