-- Strobe bits that are not all equal.
use Rattle.std.proofs.Common.{◌≡◌, ◌∙◌, ℕ, zero, suc, ◌+◌, ◌-◌, ◌/◌, ◌%◌, ◌^◌, ◌<◌, ◌≤◌, inl, inr, ◌⊎◌, ◌↔◌, Bool, true, false, not, IsTrue, refl, sym, ap, arith}
use Rattle.std.specs.Int.{bit_at}
use Rattle.std.proofs.Math.Nat.{pow-succ', div-add-mod, mod-lt}
use Rattle.std.proofs.lemmas.Bool.{cases_lt}
use Rattle.std.proofs.lemmas.Nat.Bits.{bit_at_lowest, bit_at-suc, bit_at-zero, bit_at_ones}
use Rattle.physical_stream.specs.Params.{Parameters}
use Rattle.physical_stream.specs.Breaks.{BreaksStrobe}
use Rattle.physical_stream.specs.declared.transfer.Transfer.{Transfer}

pub low_bit : (n : ℕ) → (n % 2 ≡ 0) ⊎ (n % 2 ≡ 1)
low_bit n = by_cases (n % 2) (mod-lt n (omega arith))
  where
    by_cases : (b : ℕ) → b < 2 → (b ≡ 0) ⊎ (b ≡ 1)
    by_cases zero below = inl refl
    by_cases (suc zero) below = inr refl
    by_cases (suc (suc b)) below = absurd (omega arith)

-- a bit of these lanes that is so
abbrev HasBit : ℕ → ℕ → ℕ → Type 0
HasBit bit n lanes = (lane : ℕ) × (lane < lanes) × (bit_at n lane ≡ bit)

HasBit-here : (bit n lanes : ℕ) → n % 2 ≡ bit → HasBit bit n (suc lanes)
HasBit-here bit n lanes is = (0, omega arith, bit_at_lowest n ∙ is)

HasBit-above : (bit n lanes : ℕ) → HasBit bit (n / 2) lanes → HasBit bit n (suc lanes)
HasBit-above bit n lanes found = (suc found.0, omega arith, bit_at-suc n found.0 ∙ found.2)

half_below : (n lanes : ℕ) → n < 2 ^ suc lanes → n / 2 < 2 ^ lanes
half_below n lanes below = omega (arith, pow-succ' 2 lanes, div-add-mod n 2)

-- a number that is not zero has a one
has_one : (n lanes : ℕ) → n < 2 ^ lanes → 0 < n → HasBit 1 n lanes
has_one n zero below some = absurd (omega arith)
has_one n (suc lanes) below some = by_low (low_bit n) (λ more. has_one (n / 2) lanes (half_below n lanes below) more)
  where
    by_low : (n % 2 ≡ 0) ⊎ (n % 2 ≡ 1) → (0 < n / 2 → HasBit 1 (n / 2) lanes) → HasBit 1 n (suc lanes)
    by_low (inl even) above = HasBit-above 1 n lanes (above (omega (arith, div-add-mod n 2)))
    by_low (inr odd) above = HasBit-here 1 n lanes odd

-- a number that is not all ones has a zero
has_zero : (n lanes : ℕ) → n + 1 < 2 ^ lanes → HasBit 0 n lanes
has_zero n zero below = absurd (omega arith)
has_zero n (suc lanes) below = by_low (low_bit n) (λ less. has_zero (n / 2) lanes less)
  where
    by_low : (n % 2 ≡ 0) ⊎ (n % 2 ≡ 1) → (n / 2 + 1 < 2 ^ lanes → HasBit 0 (n / 2) lanes) → HasBit 0 n (suc lanes)
    by_low (inl even) above = HasBit-here 0 n lanes even
    by_low (inr odd) above = HasBit-above 0 n lanes (above (omega (arith, pow-succ' 2 lanes, div-add-mod n 2)))

-- some bits differ exactly where the strobe is neither zero nor all ones
BreaksStrobe-mixed : (p : Parameters) (t : Transfer) → t.strb < 2 ^ p.lanes → 0 < t.strb → t.strb + 1 < 2 ^ p.lanes → BreaksStrobe p t
BreaksStrobe-mixed p t below some less =
    let one = has_one t.strb p.lanes below some in
    let other = has_zero t.strb p.lanes less in
    record { one = one.0; other = other.0; one_within = one.1; other_within = other.1; one_set = one.2; other_clear = other.2 }

mixed-BreaksStrobe : (p : Parameters) (t : Transfer) → t.strb < 2 ^ p.lanes → BreaksStrobe p t → (0 < t.strb) × (t.strb + 1 < 2 ^ p.lanes)
mixed-BreaksStrobe p t below b = (not_zero t.strb refl, not_ones (cases_lt (t.strb + 1) (2 ^ p.lanes)))
  where
    not_zero : (n : ℕ) → t.strb ≡ n → 0 < t.strb
    not_zero zero is =
        let clash : ◌≡◌ {A = ℕ} 1 0 = sym b.one_set ∙ ap (λ (n : ℕ). bit_at n b.one) is ∙ bit_at-zero b.one in absurd (omega arith)
    not_zero (suc n) is = omega arith

    not_ones : (t.strb + 1 < 2 ^ p.lanes) ⊎ (2 ^ p.lanes ≤ t.strb + 1) → t.strb + 1 < 2 ^ p.lanes
    not_ones (inl less) = less
    not_ones (inr more) =
        let ones : t.strb ≡ 2 ^ p.lanes - 1 = omega arith in
        let clash : ◌≡◌ {A = ℕ} 1 0 = sym (bit_at_ones p.lanes b.other b.other_within) ∙ ap (λ (n : ℕ). bit_at n b.other) (sym ones) ∙ b.other_clear in absurd (omega arith)

-- the test of the strobe
pub BreaksStrobe-test : (p : Parameters) (t : Transfer) (lanes : ℕ) (all : Bool) → t.strb < 2 ^ p.lanes → (t.strb ≡ 0 → ⊥) → lanes ≡ p.lanes → IsTrue all ↔ (t.strb ≡ 2 ^ lanes - 1) → IsTrue (not all) ↔ BreaksStrobe p t
BreaksStrobe-test p t lanes true below some same is = (
  λ holds. absurd cc,
  λ b.
      let less = (mixed-BreaksStrobe p t below b).1 in
      let ones : t.strb ≡ 2 ^ p.lanes - 1 = is.0 refl ∙ ap (λ (n : ℕ). 2 ^ n - 1) same in
      absurd (omega (arith, less, ones)),
)
BreaksStrobe-test p t lanes false below some same is = (
  λ holds. BreaksStrobe-mixed p t below (positive t.strb some) (not_ones (cases_lt (t.strb + 1) (2 ^ p.lanes))),
  λ b. refl,
)
  where
    positive : (n : ℕ) → (n ≡ 0 → ⊥) → 0 < n
    positive zero none = absurd (none refl)
    positive (suc n) none = omega arith

    not_ones : (t.strb + 1 < 2 ^ p.lanes) ⊎ (2 ^ p.lanes ≤ t.strb + 1) → t.strb + 1 < 2 ^ p.lanes
    not_ones (inl less) = less
    not_ones (inr more) =
        let ones : t.strb ≡ 2 ^ p.lanes - 1 = omega arith in
        let clash = is.1 (ones ∙ ap (λ (n : ℕ). 2 ^ n - 1) (sym same)) in absurd cc
