-- Fractions in lowest terms (Tydi specification, throughput).
use Rattle.std.specs.Prelude.{◌≡◌, ℕ, ◌*◌, ◌^◌, ◌<◌, ◌≤◌}
use Rattle.std.specs.Int.{IsGcd}

-- a fraction: how many, of parts of which so many are a whole
pub record Fraction : Type 0 where
  pub num : ℕ
  pub den : ℕ

-- a fraction in lowest terms: it has a whole, and no number but 1 divides both its parts
pub record IsLowest (fraction : Fraction) : Type 0 where
  pub some : 1 ≤ fraction.den
  pub lowest : IsGcd fraction.num fraction.den 1

-- a fraction has the value of `num` by `den`
abbrev pub HasValue : ℕ → ℕ → Fraction → Type 0
HasValue num den fraction = fraction.num * den ≡ num * fraction.den

-- a fraction is `num` by `den` in lowest terms
pub record IsReduced (num den : ℕ) (fraction : Fraction) : Type 0 where
  pub value : HasValue num den fraction
  pub terms : IsLowest fraction

-- both parts of a fraction fit 64 bits
abbrev pub FitsWords : Fraction → Type 0
FitsWords fraction = (fraction.num < 2 ^ 64) × (fraction.den < 2 ^ 64)

-- a fraction is the product of two, in lowest terms
abbrev pub IsProduct : Fraction → Fraction → Fraction → Type 0
IsProduct one other product = IsReduced (one.num * other.num) (one.den * other.den) product

-- the least whole number that is no less than a fraction
pub record IsCeiling (fraction : Fraction) (whole : ℕ) : Type 0 where
  pub enough : fraction.num ≤ whole * fraction.den
  pub least : (n : ℕ) → fraction.num ≤ n * fraction.den → whole ≤ n
