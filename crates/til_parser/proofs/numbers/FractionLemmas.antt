-- Fractions in lowest terms, by the remainders of each part by the next.
use Rattle.std.proofs.Common.{◌≡◌, ℕ, zero, suc, ◌%◌, ◌<◌, false, eqb, Option, None, Some, IfSome, refl, ◌∙◌, mod-lt, arith}
use Rattle.std.proofs.{Math.Nat.pos_of_dvd_of_pos, lemmas.Nat.Gcd.IsGcd-from_zero, lemmas.Nat.Gcd.IsGcd-from_mod, lemmas.Bool.Decides.nat_tests}
use Rattle.std.specs.Int.{IsGcd}
use Rattle.tydi_base.{specs.Frac.Fraction, specs.Frac.IsReduced, proofs.FracLaws.IsReduced-divided, proofs.FracLaws.same_from_IsReduced}
use Rattle.til_parser.specs.Numbers.{divisor_from, lowest}

divisor_from-is : (turns num den : ℕ) → den < turns → IsGcd num den (divisor_from turns num den)
unfolding divisor_from
divisor_from-is zero num den less = absurd (omega arith)
divisor_from-is (suc turns) num zero less = IsGcd-from_zero num 0 refl
divisor_from-is (suc turns) num (suc den) less =
    let smaller : num % suc den < suc den = mod-lt num (omega arith) in
    let some : eqb (suc den) 0 ≡ false = grind (arith, nat_tests) in
    rw some (IsGcd-from_mod num (suc den) (divisor_from turns (suc den) (num % suc den)) (divisor_from-is turns (suc den) (num % suc den) (omega arith)))

pub IsReduced-lowest : (num den : ℕ) → 0 < den → IsReduced num den (lowest num den)
unfolding lowest
IsReduced-lowest num den some =
    let greatest = divisor_from-is (suc den) num den (omega arith) in
    IsReduced-divided num den (divisor_from (suc den) num den) (omega arith) (pos_of_dvd_of_pos greatest.1 some) greatest

-- a fraction in lowest terms is the one of this project
pub lowest_from_IsReduced : (num den : ℕ) (fraction : Fraction) → 0 < den → IsReduced num den fraction → fraction ≡ lowest num den
lowest_from_IsReduced num den fraction some reduced =
    let same = same_from_IsReduced num den fraction (lowest num den) some reduced (IsReduced-lowest num den some) in
    λ i. record { num = same.0 i; den = same.1 i }

-- a fraction that is made in lowest terms
pub lowest_from_Some : (num den n d : ℕ) (made : Option Fraction) (fraction : Fraction) → num ≡ n → den ≡ d → 0 < d
    → IfSome made (IsReduced num den) → made ≡ Some fraction
    → fraction ≡ lowest n d
lowest_from_Some num den n d None fraction nums dens some reduced is = absurd cc
lowest_from_Some num den n d (Some made) fraction nums dens some reduced is =
    let same : fraction ≡ made = cc in
    same ∙ lowest_from_IsReduced n d made some (rw (← nums, ← dens) reduced)
