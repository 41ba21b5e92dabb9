use Rattle.std.proofs.Common.{◌∙◌, sym, arith}
use Rattle.tydi_base.proofs.DecimalLaws.{read_on-drop}
use Rattle.til_parser.proofs.numbers.NumberLemmas.{room-next, room-fits}
use Rattle.til_parser.proofs.leaves.with_digits.Goals as goal

pub overflow_mul-value : goal.overflow_mul-value
overflow_mul-value c =
    let fits = room-fits _ _ (room-next c.digits.value c.args.digits.now c.digits.digit-index c.requires.digits c.digits-test.true c.digits.invariant.0) in omega arith

pub overflow_add-value : goal.overflow_add-value
overflow_add-value c =
    let fits = room-fits _ _ (room-next c.digits.value c.args.digits.now c.digits.digit-index c.requires.digits c.digits-test.true c.digits.invariant.0) in omega arith

pub digits-preserved : goal.digits-preserved
digits-preserved c =
    let room = room-next c.digits.value c.args.digits.now c.digits.digit-index c.requires.digits c.digits-test.true c.digits.invariant.0 in
    let next = read_on-drop c.digits.value c.args.digits.now c.digits.digit-index c.digits-test.true in
    rw c.from.ensures (room, sym next ∙ c.digits.invariant.1)
