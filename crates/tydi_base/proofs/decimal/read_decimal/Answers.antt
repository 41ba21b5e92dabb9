use Rattle.std.proofs.Common.{◌^◌, ◌∙◌, ap, sym, List, ℕ}
use Rattle.tydi_base.specs.Decimal.{below, decimal_of}
use Rattle.tydi_base.proofs.DecimalLaws.{one_of, two_of}
use Rattle.tydi_base.proofs.decimal.read_decimal.Goals as goal

pub returns-then-digits-eq1 : goal.returns-then-digits-eq1
returns-then-digits-eq1 c =
    c.read_digit.ensures ∙ ap (λ (digits : List ℕ). below (2 ^ 64) (decimal_of digits)) (sym (one_of c.args.digits.now c.if-digits-eq1.true))

pub returns-then-digits-eq2 : goal.returns-then-digits-eq2
returns-then-digits-eq2 c =
    c.read_two_digits.ensures ∙ ap (λ (digits : List ℕ). below (2 ^ 64) (decimal_of digits)) (sym (two_of c.args.digits.now c.if-digits-eq2.true))
