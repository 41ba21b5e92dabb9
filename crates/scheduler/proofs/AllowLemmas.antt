-- The lanes that a mask allows.
use Rattle.std.proofs.Common.{◌≡◌, Bool, if◌then◌else◌, ◌∙◌, ◌⊎◌, inl, inr, ℕ, zero, suc, ◌+◌, ◌-◌, ◌^◌, ◌<◌, ◌≤◌, true, false, ◌==◌, nat_le, nat_lt, min, refl, sym, ap, arith, add-one}
use Rattle.std.specs.Int.{bit_at}
use Rattle.std.proofs.lemmas.Bool.{cases_lt}
use Rattle.std.proofs.lemmas.Bool.Decides.{nat_tests}
use Rattle.std.proofs.Math.Pow.{pow_pos, pow_mono}
use Rattle.std.proofs.lemmas.Nat.Bits.{bit_at-lt, bit_at_ones, bit_at_ones_above, bit_at_mask_inside, bit_at_mask_below, bit_at_mask_above}
use Rattle.tydi_base.specs.Level.{number_of}
use Rattle.physical_stream.specs.Params.{Parameters}
use Rattle.scheduler.specs.Planned.{is_allowed, lowest_one, ones_below, place_in}
use Rattle.scheduler.specs.Filling.{is_set}
use Rattle.scheduler.specs.Meeting.{Allows}

-- one lane more
pub ones-next : (mask lane ones : ℕ) → ones ≡ ones_below mask lane → is_set mask lane ≡ true → ones + 1 ≡ ones_below mask (lane + 1)
ones-next mask lane ones is sure =
    let one : bit_at mask lane ≡ 1 = grind (arith, nat_tests) in
    omega (arith, is, one) ∙ ap (ones_below mask) (sym (add-one lane))

pub ones-same : (mask lane ones : ℕ) → ones ≡ ones_below mask lane → is_set mask lane ≡ false → ones ≡ ones_below mask (lane + 1)
ones-same mask lane ones is never =
    let other : bit_at mask lane ≡ 1 → ⊥ = grind (arith, nat_tests) in
    let none : bit_at mask lane ≡ 0 = omega (arith, other, bit_at-lt mask lane) in
    omega (arith, is, none) ∙ ap (ones_below mask) (sym (add-one lane))

-- one lane down
pub lowest-next : (mask lane lowest : ℕ) → 0 < lane → lowest_one mask lane lowest ≡ lowest_one mask (lane - 1) (if is_set mask (lane - 1) then lane - 1 else lowest)
lowest-next mask zero lowest some = absurd (omega (arith, some))
lowest-next mask (suc lane) lowest some = let e : suc lane - 1 ≡ lane = omega arith in rw e refl

-- ---- allowed lanes of low levels

pub all-allowed : (p : Parameters) (mask : ℕ) → number_of p.level ≤ 4 → (i : ℕ) → is_allowed p mask i ≡ true
all-allowed p mask level i = let low : nat_le (number_of p.level) 4 ≡ true = grind (arith, nat_tests) in rw low refl

pub place-all : (allowed : ℕ → Bool) → ((i : ℕ) → allowed i ≡ true) → (n : ℕ) → place_in allowed n ≡ n
place-all allowed all zero = refl
place-all allowed all (suc n) = rw (all n, place-all allowed all n) (omega arith)

pub first-allowed : (p : Parameters) (mask i : ℕ) → number_of p.level ≤ 5 → is_allowed p mask i ≡ true → is_allowed p mask 0 ≡ true
first-allowed p mask i level sure = by_four (nat_le (number_of p.level) 4) (number_of p.level == 5) refl refl
  where
    by_four : (four five : Bool) → nat_le (number_of p.level) 4 ≡ four → (number_of p.level == 5) ≡ five → is_allowed p mask 0 ≡ true
    by_four true five is is5 = rw is refl
    by_four false true is is5 =
        let here : nat_lt i (ones_below mask p.lanes) ≡ true = ap (λ (b : Bool). if b then nat_lt i (ones_below mask p.lanes) else nat_lt i (ones_below mask p.lanes)) (sym is5) ∙ same ∙ sure in
        rw (is, is5) (grind (arith, nat_tests))
      where
        same : (if (number_of p.level == 5) then nat_lt i (ones_below mask p.lanes) else nat_lt i (ones_below mask p.lanes)) ≡ is_allowed p mask i
        same = rw (is, is5) refl
    by_four false false is is5 = let no_five : number_of p.level ≡ 5 → ⊥ = grind (arith, nat_tests) in let more : 4 < number_of p.level = grind (arith, nat_tests) in absurd (omega (arith, no_five, more, level))

pub count-is : (a b : ℕ) → (if nat_le a b then a else b) ≡ min a b
count-is a b = by_test (nat_le a b) refl
  where
    by_test : (test : Bool) → nat_le a b ≡ test → (if test then a else b) ≡ min a b
    by_test true is = let le : a ≤ b = grind (arith, nat_tests) in omega (arith, le)
    by_test false is = let le : b < a = grind (arith, nat_tests) in omega (arith, le)

-- ---- the numbers of the code

module _ (p : Parameters) (mask allowed : ℕ) where
  at-four : nat_le (number_of p.level) 4 ≡ true → (lane : ℕ) → is_allowed p mask lane ≡ true
  at-four is lane = rw is refl

  pub allows-all : nat_le (number_of p.level) 4 ≡ true → allowed ≡ 2 ^ p.lanes - 1 → Allows p mask allowed
  allows-all is all = record { each = λ lane less. let bit = bit_at_ones p.lanes lane less in rw (all, bit, is) refl }

  pub allows-mask : nat_le 7 (number_of p.level) ≡ true → allowed ≡ mask → Allows p mask allowed
  allows-mask is same = record {
    each = λ lane less.
        let four : nat_le (number_of p.level) 4 ≡ false = grind (arith, nat_tests) in
        let five : (number_of p.level == 5) ≡ false = grind (arith, nat_tests) in
        let six : (number_of p.level == 6) ≡ false = grind (arith, nat_tests) in
        rw (four, five, six, same) refl;
  }

  pub allows-low : (number_of p.level == 5) ≡ true → allowed ≡ 2 ^ ones_below mask p.lanes - 1 → Allows p mask allowed
  allows-low is low = record { each = λ lane less. by_place lane (cases_lt lane (ones_below mask p.lanes)) }
    where
      four : nat_le (number_of p.level) 4 ≡ false
      four = grind (arith, nat_tests)

      by_place : (lane : ℕ) → (lane < ones_below mask p.lanes) ⊎ (ones_below mask p.lanes ≤ lane) → is_set allowed lane ≡ is_allowed p mask lane
      by_place lane (inl l) =
          let bit = bit_at_ones (ones_below mask p.lanes) lane l in
          let test : nat_lt lane (ones_below mask p.lanes) ≡ true = grind (arith, nat_tests) in
          rw (low, bit, four, is, test) refl
      by_place lane (inr m) =
          let bit = bit_at_ones_above (ones_below mask p.lanes) lane m in
          let test : nat_lt lane (ones_below mask p.lanes) ≡ false = grind (arith, nat_tests) in
          rw (low, bit, four, is, test) refl

  pub allows-between : (lowest ones top : ℕ) → (number_of p.level == 6) ≡ true → lowest ≡ lowest_one mask p.lanes 0 → ones ≡ ones_below mask p.lanes → top ≡ min (lowest + ones) p.lanes →
      allowed ≡ 2 ^ top - 2 ^ lowest → Allows p mask allowed
  allows-between lowest ones top is from many to between = record { each = λ lane less. by_test lane less (cases_lt lane lowest) (cases_lt lane top) }
    where
      four : nat_le (number_of p.level) 4 ≡ false
      four = grind (arith, nat_tests)

      five : (number_of p.level == 5) ≡ false
      five = grind (arith, nat_tests)

      by_test : (lane : ℕ) → lane < p.lanes → (lane < lowest) ⊎ (lowest ≤ lane) → (lane < top) ⊎ (top ≤ lane) → is_set allowed lane ≡ is_allowed p mask lane
      by_test lane less (inl under) _ =
          let bit = bit_at_mask_below lowest top lane under in
          let test : nat_le (lowest_one mask p.lanes 0) lane ≡ false = grind (arith, nat_tests) in
          rw (between, bit, four, five, is, test) refl
      by_test lane less (inr above) (inl under) =
          let bit = bit_at_mask_inside lowest top lane above under in
          let test : nat_le (lowest_one mask p.lanes 0) lane ≡ true = grind (arith, nat_tests) in
          let l : lane < lowest_one mask p.lanes 0 + ones_below mask p.lanes = omega (arith, to, under, from, many) in
          let other : nat_lt lane (lowest_one mask p.lanes 0 + ones_below mask p.lanes) ≡ true = grind (arith, nat_tests) in
          rw (between, bit, four, five, is, test, other) refl
      by_test lane less (inr above) (inr over) =
          let bit = bit_at_mask_above lowest top lane over in
          let test : nat_le (lowest_one mask p.lanes 0) lane ≡ true = grind (arith, nat_tests) in
          let l : lowest_one mask p.lanes 0 + ones_below mask p.lanes ≤ lane = omega (arith, to, over, less, from, many) in
          let other : nat_lt lane (lowest_one mask p.lanes 0 + ones_below mask p.lanes) ≡ false = grind (arith, nat_tests) in
          rw (between, bit, four, five, is, test, other) refl

-- the ones below a lane are among those below a higher one
pub ones-less : (lowest sum lanes top low high : ℕ) → lowest ≤ lanes → lowest ≤ sum → top ≡ min sum lanes → low ≡ 2 ^ lowest - 1 → high ≡ 2 ^ top - 1 → low ≤ high
ones-less lowest sum lanes top low high within less is one other = let mono = pow_mono {i = lowest} {j = top} (omega (arith, within, less, is)) in omega (arith, mono, one, other)

pub ones-apart : (low high lowest top : ℕ) → low ≡ 2 ^ lowest - 1 → high ≡ 2 ^ top - 1 → high - low ≡ 2 ^ top - 2 ^ lowest
ones-apart low high lowest top one other = omega (arith, one, other, pow_pos lowest, pow_pos top)
