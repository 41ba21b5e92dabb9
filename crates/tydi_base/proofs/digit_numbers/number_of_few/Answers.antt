use Rattle.std.proofs.Common.{◌∙◌, sym, arith}
use Rattle.tydi_base.proofs.DigitNumbers.{number_in-nil, number_in-more, number_in-stops, number_in-room, number_in-all}
use Rattle.tydi_base.proofs.digit_numbers.number_of_few.Goals as goal

pub digits-init : goal.digits-init
digits-init c = number_in-nil

pub overflow_mul-number : goal.overflow_mul-number
overflow_mul-number c =
    let room = number_in-room c.args.digits.now c.digits.digit-index c.digits.number c.digits-test.true c.requires c.digits.invariant in
    omega (arith, room)

pub returns-in_err-digit_value : goal.returns-in_err-digit_value
returns-in_err-digit_value c =
    c.from_residual.ensures ∙ sym (number_in-stops c.args.digits.now c.digits.digit-index c.digits-test.true (sym c.digit_value.ensures.value ∙ c.in_err-digit_value.was))

pub overflow_add-number : goal.overflow_add-number
overflow_add-number c =
    let room = number_in-room c.args.digits.now c.digits.digit-index c.digits.number c.digits-test.true c.requires c.digits.invariant in
    omega (arith, room, c.in_ok-digit_value.ensures.below, c.from.ensures)

pub digits-preserved : goal.digits-preserved
digits-preserved c =
    rw c.from.ensures (number_in-more c.args.digits.now c.digits.digit-index c.digits.number _ c.digits-test.true c.in_ok-digit_value.ensures.below
    (sym c.digit_value.ensures.value ∙ c.in_ok-digit_value.was) c.digits.invariant)

pub returns : goal.returns
returns c = number_in-all c.args.digits.now c.digits.digit-index c.digits.number c.digits-test.false c.digits.invariant
