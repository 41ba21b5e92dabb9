-- Fractions in lowest terms: each is reduced to one, and to one alone.
use Rattle.std.proofs.Common.{◌≡◌, ℕ, zero, suc, ◌*◌, ◌/◌, ◌%◌, ◌<◌, ◌≤◌, refl, sym, ap, subst, ◌∙◌, arith}
use Rattle.std.proofs.Math.Nat.{dvd_trans, dvd_antisymm, dvd-zero, one-dvd, one-mul, dvd-mul_left, dvd-mul_right, mul-dvd-mul_right, dvd_of_mul-dvd-mul_right, mul_comm, mul_assoc, mul_right_comm, mod-lt, div-mul_cancel, eq_of_mul-eq-mul_right, mul-pos}
use Prim.Native.Nat.{◌∣◌}
use Rattle.std.specs.Int.{IsGcd}
use Rattle.std.proofs.lemmas.Nat.{le-div}
use Rattle.std.proofs.lemmas.Nat.Gcd.{IsGcd-from_zero, IsGcd-from_mod, IsGcd-swap, le_of_dvd}
use Rattle.tydi_base.specs.Frac.{Fraction, IsReduced, FitsWords}

-- any two numbers have a greatest common divisor
pub gcd_below : (n a b : ℕ) → b < n → (g : ℕ) × IsGcd a b g
gcd_below zero a b lt = absurd (omega arith)
gcd_below (suc n) a zero lt = (a, IsGcd-from_zero a 0 refl)
gcd_below (suc n) a (suc b) lt =
    let less : a % suc b < suc b = mod-lt a (omega arith) in
    let found = gcd_below n (suc b) (a % suc b) (omega arith) in
    (found.0, IsGcd-from_mod a (suc b) found.0 found.1)

-- a common divisor of a and b, times c, divides c if a and b have no common divisor but 1
common_divides : (a b c h : ℕ) → 0 < c → IsGcd a b 1 → IsGcd (a * c) (b * c) h → h ∣ c
common_divides a b c h pos coprime greatest =
    let whole : h / c * c ≡ h = div-mul_cancel c (greatest.2 c (dvd-mul_left c a) (dvd-mul_left c b)) in
    let k : ℕ = h / c in
    let in-a : k * c ∣ a * c = subst (λ (n : ℕ). n ∣ a * c) (sym whole) greatest.0 in
    let in-b : k * c ∣ b * c = subst (λ (n : ℕ). n ∣ b * c) (sym whole) greatest.1 in
    let in-one : k ∣ 1 = coprime.2 k (dvd_of_mul-dvd-mul_right k pos in-a) (dvd_of_mul-dvd-mul_right k pos in-b) in
    let times : k * c ∣ 1 * c = mul-dvd-mul_right k in-one c in
    subst (λ (n : ℕ). n ∣ c) whole (subst (λ (n : ℕ). k * c ∣ n) (one-mul c) times)

-- a divisor of a product that has no common divisor with the one factor divides the other
pub coprime_divides : (a b c : ℕ) → IsGcd a b 1 → a ∣ b * c → a ∣ c
coprime_divides a b zero coprime divides = dvd-zero a
coprime_divides a b (suc c) coprime divides =
    let found = gcd_below (suc (b * suc c)) (a * suc c) (b * suc c) (omega arith) in
    dvd_trans a (found.1.2 a (dvd-mul_right a (suc c)) divides) (common_divides a b (suc c) found.0 (omega arith) coprime found.1)

-- ---- fractions of one value

crossed : (num den n d m e : ℕ) → 0 < den → n * den ≡ num * d → m * den ≡ num * e → n * e ≡ m * d
crossed num den n d m e pos one other = eq_of_mul-eq-mul_right den pos (n * e) (m * d)
    (mul_right_comm n e den ∙ ap (λ (x : ℕ). x * e) one ∙ mul_right_comm num d e ∙ ap (λ (x : ℕ). x * d) (sym other) ∙ mul_right_comm m den d)

den_divides : (n d m e : ℕ) → IsGcd n d 1 → n * e ≡ m * d → d ∣ e
den_divides n d m e lowest cross = coprime_divides d n e (IsGcd-swap n d 1 lowest) (subst (λ (x : ℕ). d ∣ x) (sym cross) (dvd-mul_left d m))

-- two fractions in lowest terms and of one value are the same
pub same_from_IsReduced : (num den : ℕ) (one other : Fraction) → 0 < den → IsReduced num den one → IsReduced num den other → (one.num ≡ other.num) × (one.den ≡ other.den)
same_from_IsReduced num den one other pos h k =
    let cross : one.num * other.den ≡ other.num * one.den = crossed num den one.num one.den other.num other.den pos h.value k.value in
    let there : one.den ∣ other.den = den_divides one.num one.den other.num other.den h.terms.lowest cross in
    let back : other.den ∣ one.den = den_divides other.num other.den one.num one.den k.terms.lowest (sym cross) in
    let dens : one.den ≡ other.den = dvd_antisymm there back in
    let some : 0 < other.den = omega (arith, k.terms.some) in
    (eq_of_mul-eq-mul_right other.den some one.num other.num (cross ∙ ap (λ (x : ℕ). other.num * x) dens), dens)

-- ---- the division by the greatest common divisor

divided_value : (p q g num den : ℕ) → p * g ≡ num → q * g ≡ den → p * den ≡ num * q
divided_value p q g num den one other = ap (λ (x : ℕ). p * x) (sym other ∙ mul_comm q g) ∙ sym (mul_assoc p g q) ∙ ap (λ (x : ℕ). x * q) one

divided_lowest : (p q g num den : ℕ) → 0 < g → p * g ≡ num → q * g ≡ den → IsGcd num den g → IsGcd p q 1
divided_lowest p q g num den pos one other greatest = (
  one-dvd p,
  one-dvd q,
  λ d in-p in-q.
      let in-num : d * g ∣ num = subst (λ (x : ℕ). d * g ∣ x) one (mul-dvd-mul_right d in-p g) in
      let in-den : d * g ∣ den = subst (λ (x : ℕ). d * g ∣ x) other (mul-dvd-mul_right d in-q g) in
      let both : d * g ∣ g = greatest.2 (d * g) in-num in-den in
      dvd_of_mul-dvd-mul_right d pos (subst (λ (x : ℕ). d * g ∣ x) (sym (one-mul g)) both),
)

pub IsReduced-divided : (num den g : ℕ) → 1 ≤ den → 1 ≤ g → IsGcd num den g → IsReduced num den (record { num = num / g; den = den / g })
IsReduced-divided num den g some pos greatest =
    let one : num / g * g ≡ num = div-mul_cancel g greatest.0 in
    let other : den / g * g ≡ den = div-mul_cancel g greatest.1 in
    let le : g ≤ den = le_of_dvd (omega arith) greatest.1 in
    let unit : 1 * g ≡ g = one-mul g in
    record {
      value = divided_value (num / g) (den / g) g num den one other;
      terms = record {
        some = le-div 1 den g (omega arith) (omega arith);
        lowest = divided_lowest (num / g) (den / g) g num den (omega arith) one other greatest;
      };
    }

-- ---- a product that does not fit

pub no_product-fits : (num d e : ℕ) (reduced : Fraction) → 1 ≤ d → 1 ≤ e → IsReduced num (d * e) reduced → (FitsWords reduced → ⊥) → (product : Fraction) → IsReduced num (d * e) product → FitsWords product → ⊥
no_product-fits num d e reduced one other h large product k fits =
    let some : 0 < d * e = mul-pos one other in
    let same = same_from_IsReduced num (d * e) reduced product some h k in
    large (omega (arith, same.0, fits.0), omega (arith, same.1, fits.1))
