use Rattle.std.proofs.Common.{◌≡◌, ◌∙◌, ℕ, Option, Some, None, ap, sym, arith}
use Rattle.tydi_base.proofs.DigitNumbers.{number_in-one, number_in-stops}
use Rattle.tydi_base.proofs.digit_numbers.digit_within.Goals as goal

pub returns-in_err-digit_value-clause-none : goal.returns-in_err-digit_value-clause-none
returns-in_err-digit_value-clause-none c =
    let none = number_in-stops c.args.digits.now 0 (omega (arith, c.requires)) (sym c.digit_value.ensures.value ∙ c.in_err-digit_value.was) in
    rw c.from_residual.ensures (λ number is. absurd (let both : ◌≡◌ {A = Option ℕ} None (Some number) = sym none ∙ is in cc))

pub returns-then-number-most-clause-none : goal.returns-then-number-most-clause-none
returns-then-number-most-clause-none c = λ number is.
    let one = number_in-one c.args.digits.now c.in_ok-digit_value.field-0 c.requires c.in_ok-digit_value.ensures.below (sym c.digit_value.ensures.value ∙ c.in_ok-digit_value.was) in
    let same : c.in_ok-digit_value.field-0 ≡ number = let both : ◌≡◌ {A = Option ℕ} (Some c.in_ok-digit_value.field-0) (Some number) = one ∙ is in cc in
    omega (arith, same, c.from-number.ensures, c.if-number-most.true)

pub returns-else-number-most-clause-some : goal.returns-else-number-most-clause-some
returns-else-number-most-clause-some c =
    let one = number_in-one c.args.digits.now c.in_ok-digit_value.field-0 c.requires c.in_ok-digit_value.ensures.below (sym c.digit_value.ensures.value ∙ c.in_ok-digit_value.was) in
    (sym one ∙ ap (λ (n : ℕ). Some n) (sym c.from-number.ensures), omega (arith, c.if-number-most.false))
