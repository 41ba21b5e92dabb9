use Rattle.std.proofs.Common.{◌<◌, ◌≤◌, ◌^◌, length, arith}
use Rattle.std.specs.Fmt.{decimal}
use Rattle.std.proofs.lemmas.Fmt.{length-decimal-le}
use Rattle.tydi_base.proofs.LengthLemmas.{length-decimal_more, length-decimal_one}
use Rattle.tydi_base.proofs.decimal.decimal_length.Goals as goal

pub overflow_add-digits : goal.overflow_add-digits
overflow_add-digits c =
    let below : c.args.number < 2 ^ 64 = omega (arith, c.ranges.number) in
    let most : length (decimal c.args.number) ≤ 20 = length-decimal-le 20 c.args.number (omega arith) (omega arith) below in
    omega (arith, c.digits.invariant.sum, most)

pub digits-preserved : goal.digits-preserved
digits-preserved c =
    let below : c.args.number < 2 ^ 64 = omega (arith, c.ranges.number) in
    let left : c.digits.left < 2 ^ 64 = omega (arith, below, c.digits.invariant.less) in
    let more = length-decimal_more c.digits.left c.digits-test.true left in
    record { sum = omega (arith, more, c.digits.invariant.sum); less = omega (arith, c.digits.invariant.less) }

pub returns : goal.returns
returns c =
    let below : c.args.number < 2 ^ 64 = omega (arith, c.ranges.number) in
    let most : length (decimal c.args.number) ≤ 20 = length-decimal-le 20 c.args.number (omega arith) (omega arith) below in
    let one = length-decimal_one c.digits.left c.digits-test.false in
    record { digits = omega (arith, one, c.digits.invariant.sum); few = omega (arith, one, most, c.digits.invariant.sum) }
