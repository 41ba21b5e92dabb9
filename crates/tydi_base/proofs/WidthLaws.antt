-- The bits that number things are the least that do.
use Rattle.std.proofs.Common.{inl, inr, ◌⊎◌, ◌≡◌, ◌∙◌, ◌+◌, ◌-◌, ◌*◌, ◌^◌, ◌<◌, ◌≤◌, ℕ, zero, suc, Bool, true, false, if◌then◌else◌, nat_le, refl, ap, arith}
use Rattle.std.proofs.Math.Nat.{pow-succ'}
use Rattle.std.proofs.Math.Pow.{pow_mono}
use Rattle.std.proofs.lemmas.Bool.Decides.{nat_tests}
use Rattle.std.proofs.lemmas.Bool.{cases_lt}
use Rattle.tydi_base.specs.Width.{least_power, index_width, IsIndexWidth}

pub least_power-here : (n low more : ℕ) → n ≤ 2 ^ low → least_power n low more ≡ low
least_power-here n low zero enough = refl
least_power-here n low (suc more) enough =
    let test : nat_le n (2 ^ low) ≡ true = grind (arith, nat_tests)
    in ap (λ (b : Bool). if b then low else least_power n (suc low) more) test

pub least_power-next : (n low more : ℕ) → 2 ^ low < n → least_power n low (suc more) ≡ least_power n (suc low) more
least_power-next n low more short =
    let test : nat_le n (2 ^ low) ≡ false = grind (arith, nat_tests)
    in ap (λ (b : Bool). if b then low else least_power n (suc low) more) test

below_power : (n : ℕ) → n < 2 ^ n
below_power zero = omega arith
below_power (suc n) = omega (arith, below_power n, pow-succ' 2 n)

more_below : (n low other : ℕ) → 2 ^ low < n → n ≤ 2 ^ other → low ≤ other → suc low ≤ other
more_below n low other short enough from =
    elim (cases_lt low other) [ inl less ↦ omega arith | inr past ↦ let same : other ≡ low = omega arith in let equal = ap (λ (k : ℕ). 2 ^ k) same in absurd (omega arith) ]

least_next : (n low more : ℕ)
    → (2 ^ low < n) ⊎ (n ≤ 2 ^ low)
    → ((other : ℕ) → n ≤ 2 ^ other → low ≤ other)
    → (((other : ℕ) → n ≤ 2 ^ other → suc low ≤ other) → IsIndexWidth n (least_power n (suc low) more))
    → IsIndexWidth n (least_power n low (suc more))
least_next n low more (inl short) from later =
    rw (least_power-next n low more short) (later (λ other enough. more_below n low other short enough (from other enough)))
least_next n low more (inr here) from later =
    rw (least_power-here n low (suc more) here) (record { enough = here; least = from })

-- the width that the search finds is enough, and no smaller one is, where no width below its start is
least_by : (n low more : ℕ) → n ≤ low + more → ((other : ℕ) → n ≤ 2 ^ other → low ≤ other) → IsIndexWidth n (least_power n low more)
least_by n low zero room from = record { enough = omega (arith, below_power low); least = from }
least_by n low (suc more) room from =
    least_next n low more (cases_lt (2 ^ low) n) from (λ next. least_by n (suc low) more (omega arith) next)

pub index_width-least : (n : ℕ) → IsIndexWidth n (index_width n)
index_width-least n = least_by n 0 n (omega arith) (λ other enough. omega arith)

pub index_width-enough : (n : ℕ) → n ≤ 2 ^ index_width n
index_width-enough n = (index_width-least n).enough

-- two least widths are the same
pub index_width-only : (n width : ℕ) → IsIndexWidth n width → width ≡ index_width n
index_width-only n width is =
    let found = index_width-least n
    in omega (arith, is.least (index_width n) found.enough, found.least width is.enough)

-- by the logarithm of one thing less
pub index_width-log : (n log : ℕ) → 1 < n → 2 ^ log ≤ n - 1 → n - 1 < 2 * 2 ^ log → log + 1 ≡ index_width n
index_width-log n log some low high =
    index_width-only n (log + 1) (record {
      enough = omega (arith, pow-add_one log);
      least = λ other enough. elim (cases_lt log other) [ inl less ↦ omega arith | inr past ↦ let power : 2 ^ other ≤ 2 ^ log = pow_mono past in absurd (omega arith) ];
    })
  where
    pow-add_one : (log : ℕ) → 2 ^ (log + 1) ≡ 2 * 2 ^ log
    pow-add_one log = let next : log + 1 ≡ suc log = omega arith in ap (λ (k : ℕ). 2 ^ k) next ∙ pow-succ' 2 log

pub index_width-few : (n : ℕ) → n ≤ 1 → 0 ≡ index_width n
index_width-few n few = index_width-only n 0 (record { enough = omega arith; least = λ other enough. omega arith })
