-- Products of throughputs in lowest terms: what the code's fractions are.
use Rattle.std.proofs.Common.{◌≡◌, ℕ, zero, suc, ◌*◌, ◌%◌, ◌^◌, ◌<◌, ◌≤◌, Bool, true, false, ◌&&◌, ◌||◌, not, cond, ltb, eqb, ◌≢◌, inl, inr, refl, sym, ap, ◌∙◌, subst, arith}
use Rattle.std.proofs.Math.Nat.{one-dvd, le_of_dvd, mul-pos, pos_of_dvd_of_pos, mul-le-mul_right}
use Prim.Native.Nat.{◌∣◌}
use Rattle.std.specs.Int.{IsGcd}
use Rattle.std.proofs.lemmas.Bool.Decides.{Decides-eqb, Decides-ltb, leb_tells}
use Rattle.std.proofs.lemmas.Nat.Gcd.{dvd_of_mod-eq-zero, mod-eq-zero_of_dvd}
use Rattle.tydi_base.specs.Frac.{Fraction, IsReduced, IsProduct, FitsWords, IsCeiling}
use Rattle.tydi_base.proofs.FracLaws.{gcd_below, same_from_IsReduced, IsReduced-divided}
use Rattle.logical_types.specs.Throughput.{divides, divisor_up_to, greatest_divisor, lowest, product_of, fits_words}
use Rattle.logical_types.specs.Faults.{is_bad_throughput}

-- ---- truths

and_cases : (a b : Bool) → (a && b) ≡ true → (a ≡ true) × (b ≡ true)
and_cases true b e = (refl, e)
and_cases false b e = absurd (cc e)

and_both : (a b : Bool) → a ≡ true → b ≡ true → (a && b) ≡ true
and_both true b left right = right
and_both false b left right = left

or_right : (a b : Bool) → b ≡ true → (a || b) ≡ true
or_right true b e = refl
or_right false b e = e

false_from : (a : Bool) → (a ≡ true → ⊥) → a ≡ false
false_from true never = absurd (never refl)
false_from false never = refl

-- ---- the greatest common divisor

divides-dvd : (divisor number : ℕ) → divides divisor number ≡ true → divisor ∣ number
divides-dvd divisor number e = dvd_of_mod-eq-zero divisor ((Decides-eqb (number % divisor) 0).0 e)

dvd-divides : (divisor number : ℕ) → divisor ∣ number → divides divisor number ≡ true
dvd-divides divisor number h = (Decides-eqb (number % divisor) 0).1 (mod-eq-zero_of_dvd divisor h)

chosen : (test : Bool) (k rest one other : ℕ) → (test ≡ true → (k ∣ one) × (k ∣ other)) → (rest ∣ one) × (rest ∣ other) → (cond test k rest ∣ one) × (cond test k rest ∣ other)
chosen true k rest one other here below = here refl
chosen false k rest one other here below = below

pub up_to-divides : (most one other : ℕ) → (divisor_up_to most one other ∣ one) × (divisor_up_to most one other ∣ other)
up_to-divides zero one other = (one-dvd one, one-dvd other)
up_to-divides (suc less) one other = chosen (divides (suc less) one && divides (suc less) other) (suc less) (divisor_up_to less one other) one other
    (λ e. let both = and_cases (divides (suc less) one) (divides (suc less) other) e in (divides-dvd (suc less) one both.0, divides-dvd (suc less) other both.1))
    (up_to-divides less one other)

greater : (test : Bool) (k rest d : ℕ) → d ≤ k → (test ≡ false → d ≤ rest) → d ≤ cond test k rest
greater true k rest d le below = le
greater false k rest d le below = below refl

lower : (k one other d : ℕ) → (divides k one && divides k other) ≡ false → d ∣ one → d ∣ other → d ≢ k
lower k one other d fails in-one in-other same =
    let yes : (divides d one && divides d other) ≡ true = and_both (divides d one) (divides d other) (dvd-divides d one in-one) (dvd-divides d other in-other) in
    let here : (divides k one && divides k other) ≡ true = subst (λ (n : ℕ). (divides n one && divides n other) ≡ true) same yes in
    let clash : true ≡ false = sym here ∙ fails in
    cc clash

up_to-greatest : (most one other d : ℕ) → 1 ≤ d → d ≤ most → d ∣ one → d ∣ other → d ≤ divisor_up_to most one other
up_to-greatest zero one other d some le in-one in-other = absurd (omega arith)
up_to-greatest (suc less) one other d some le in-one in-other =
    greater (divides (suc less) one && divides (suc less) other) (suc less) (divisor_up_to less one other) d le
    (λ fails. let apart : d ≢ suc less = lower (suc less) one other d fails in-one in-other in
    up_to-greatest less one other d some (omega arith) in-one in-other)

greatest_divisor-IsGcd : (one other : ℕ) → 0 < other → IsGcd one other (greatest_divisor one other)
unfolding greatest_divisor
greatest_divisor-IsGcd one other some =
    let g = gcd_below (suc other) one other (omega arith) in
    let pos : 0 < g.0 = pos_of_dvd_of_pos g.1.1 some in
    let both = up_to-divides other one other in
    let most : divisor_up_to other one other ≤ g.0 = le_of_dvd pos (g.1.2 (divisor_up_to other one other) both.0 both.1) in
    let least : g.0 ≤ divisor_up_to other one other = up_to-greatest other one other g.0 pos (le_of_dvd some g.1.1) g.1.0 g.1.1 in
    let same : g.0 ≡ divisor_up_to other one other = omega arith in
    subst (λ (n : ℕ). IsGcd one other n) same g.1

-- ---- lowest terms

pub lowest-IsReduced : (num den : ℕ) → 1 ≤ den → IsReduced num den (lowest num den)
unfolding lowest
lowest-IsReduced num den some =
    let greatest = greatest_divisor-IsGcd num den some in
    IsReduced-divided num den (greatest_divisor num den) some (pos_of_dvd_of_pos greatest.1 some) greatest

same_fraction : (one other : Fraction) → one.num ≡ other.num → one.den ≡ other.den → one ≡ other
same_fraction one other nums dens =
    let by_num : ℕ → Fraction = λ n. record { num = n; den = one.den } in
    let by_den : ℕ → Fraction = λ d. record { num = other.num; den = d } in
    ap by_num nums ∙ ap by_den dens

-- the product that the code finds is the product
pub product_of-is : (one other product : Fraction) → 1 ≤ one.den → 1 ≤ other.den → IsProduct one other product → product ≡ product_of one other
product_of-is one other product left right is =
    let some : 0 < one.den * other.den = mul-pos left right in
    let same = same_from_IsReduced (one.num * other.num) (one.den * other.den) product (product_of one other) some is (lowest-IsReduced (one.num * other.num) (one.den * other.den) some) in
    same_fraction product (product_of one other) same.0 same.1

-- one by one is one
pub one-is : (product : Fraction) → IsReduced 1 1 product → product ≡ record { num = 1; den = 1 }
one-is product is =
    let whole : Fraction = record { num = 1; den = 1 } in
    let reduced : IsReduced 1 1 whole = record { value = refl; terms = record { some = omega arith; lowest = (one-dvd 1, one-dvd 1, λ d left right. left) } } in
    let same = same_from_IsReduced 1 1 product whole (omega arith) is reduced in
    same_fraction product whole same.0 same.1

-- ---- the tests of the code

fits_words-true : (fraction : Fraction) → FitsWords fraction → fits_words fraction ≡ true
fits_words-true fraction fits = and_both (ltb fraction.num (2 ^ 64)) (ltb fraction.den (2 ^ 64))
    ((Decides-ltb fraction.num (2 ^ 64)).1 fits.0) ((Decides-ltb fraction.den (2 ^ 64)).1 fits.1)

fits_words-false : (fraction : Fraction) → (FitsWords fraction → ⊥) → fits_words fraction ≡ false
fits_words-false fraction large = false_from (fits_words fraction)
    (λ e. let both = and_cases (ltb fraction.num (2 ^ 64)) (ltb fraction.den (2 ^ 64)) e in
    large ((Decides-ltb fraction.num (2 ^ 64)).0 both.0, (Decides-ltb fraction.den (2 ^ 64)).0 both.1))

pub bad-at_zero : (around throughput : Fraction) → throughput.num ≡ 0 → is_bad_throughput around throughput ≡ true
bad-at_zero around throughput none = ap (λ b. b || not (fits_words (product_of around throughput))) ((Decides-eqb throughput.num 0).1 none)

pub bad-too_large : (around throughput : Fraction) → 1 ≤ around.den → 1 ≤ throughput.den
    → ((product : Fraction) → IsProduct around throughput product → FitsWords product → ⊥) → is_bad_throughput around throughput ≡ true
bad-too_large around throughput left right none =
    let reduced = lowest-IsReduced (around.num * throughput.num) (around.den * throughput.den) (mul-pos left right) in
    let large : fits_words (product_of around throughput) ≡ false = fits_words-false (product_of around throughput) (none (product_of around throughput) reduced) in
    or_right (eqb throughput.num 0) (not (fits_words (product_of around throughput))) (ap not large)

pub good : (around throughput product : Fraction) → throughput.num ≢ 0 → 1 ≤ around.den → 1 ≤ throughput.den
    → IsProduct around throughput product → FitsWords product → (is_bad_throughput around throughput ≡ false) × (product ≡ product_of around throughput)
good around throughput product some left right is fits =
    let same = product_of-is around throughput product left right is in
    let small : fits_words (product_of around throughput) ≡ true = subst (λ (p : Fraction). fits_words p ≡ true) same (fits_words-true product fits) in
    let test : eqb throughput.num 0 ≡ false = false_from (eqb throughput.num 0) (λ e. some ((Decides-eqb throughput.num 0).0 e)) in
    (ap (λ b. b || not (fits_words (product_of around throughput))) test ∙ ap not small, same)

-- over 128 lanes, or not
pub lanes-many : (product : Fraction) (whole : ℕ) → IsCeiling product whole → 128 < whole → ltb (128 * product.den) product.num ≡ true
lanes-many product whole is many = (Decides-ltb (128 * product.den) product.num).1 (over (128 * product.den) product.num whole (is.least 128) many)
  where
    over : (limit num found : ℕ) → (num ≤ limit → found ≤ 128) → 128 < found → limit < num
    over limit num found least large = elim (leb_tells num limit) [
      | inl within ↦ absurd (not_few (least within.1))
      | inr beyond ↦ beyond.1
    ]
      where
        not_few : found ≤ 128 → ⊥
        not_few few = omega arith

pub lanes-few : (product : Fraction) (whole : ℕ) → IsCeiling product whole → whole ≤ 128 → ltb (128 * product.den) product.num ≡ false
lanes-few product whole is few = false_from (ltb (128 * product.den) product.num)
    (λ e. let lt : 128 * product.den < product.num = (Decides-ltb (128 * product.den) product.num).0 e in
    omega (arith, is.enough, mul-le-mul_right product.den few))
