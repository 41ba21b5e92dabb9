use Rattle.std.proofs.Common.{◌∙◌, ℕ, Some, sym, ap, arith}
use Rattle.tydi_base.proofs.DigitNumbers.{number_in-one, number_in-stops}
use Rattle.tydi_base.proofs.digit_numbers.hex_number.Goals as goal

pub returns-in_err-digit_value : goal.returns-in_err-digit_value
returns-in_err-digit_value c =
    c.from_residual.ensures ∙ sym (number_in-stops c.args.digits.now 0 (omega (arith, c.if-digits-eq1.true)) (sym c.digit_value.ensures.value ∙ c.in_err-digit_value.was))

pub returns-then-digits-eq1 : goal.returns-then-digits-eq1
returns-then-digits-eq1 c =
    ap (λ (n : ℕ). Some n) c.from.ensures
    ∙ number_in-one c.args.digits.now c.in_ok-digit_value.field-0 c.if-digits-eq1.true c.in_ok-digit_value.ensures.below (sym c.digit_value.ensures.value ∙ c.in_ok-digit_value.was)
