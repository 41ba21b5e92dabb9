use Rattle.std.proofs.Common.{◌≡◌, ◌∙◌, ℕ, ◌+◌, ◌-◌, ◌*◌, ◌%◌, ◌^◌, ◌<◌, take, drop, length, Some, sym, ap, arith}
use Rattle.std.proofs.lemmas.List.{length-take}
use Rattle.tydi_base.proofs.DigitNumbers.{number_in, number_in-back, number_in-below, number_in-front, number_in-parts, number_of_rest}
use Rattle.tydi_base.proofs.digit_numbers.number_of_many.Goals as goal

pub returns-in_err-high : goal.returns-in_err-high
returns-in_err-high c = c.from_residual.ensures ∙ sym (number_in-front c.args.digits.now _ (sym c.number_of_few.ensures ∙ c.in_err-high.was))

pub returns-in_err-low : goal.returns-in_err-low
returns-in_err-low c =
    c.from_residual-in_err-low.ensures ∙ sym (number_in-back c.args.digits.now (length c.args.digits.now - 16) (sym (c.number_of_few-2.ensures ∙ number_of_rest c.args.digits.now _) ∙ c.in_err-low.was))

pub returns : goal.returns
returns c =
    let digits = c.args.digits.now in
    let place = length digits - 16 in
    let above : number_in (take place digits) ≡ Some c.in_ok-high.high = sym c.number_of_few.ensures ∙ c.in_ok-high.was in
    let below : number_in (drop place digits) ≡ Some c.in_ok-low.low = sym (c.number_of_few-2.ensures ∙ number_of_rest digits place) ∙ c.in_ok-low.was in
    let small : c.in_ok-high.high < 2 ^ 64 = number_in-below (take place digits) c.in_ok-high.high 16 (omega (arith, length-take place digits, c.requires.most)) above in
    let sum : c.from.result * 2 ^ 64 % 2 ^ 128 + c.from-2.result ≡ c.in_ok-high.high * 2 ^ 64 + c.in_ok-low.low = omega (arith, small, c.from.ensures, c.from-2.ensures) in
    ap (λ (n : ℕ). Some n) sum ∙ sym (number_in-parts digits place c.in_ok-high.high c.in_ok-low.low (omega (arith, c.requires.many)) above below)
