use Rattle.std.proofs.Common.{◌≡◌, length, arith, take}
use Rattle.std.proofs.lemmas.List.{length-take}
use Rattle.tydi_base.proofs.HexLanes.{block_none, block_some}
use Rattle.tydi_base.proofs.hex_digits.block_of.Goals as goal

pub returns-then-values-ne0 : goal.returns-then-values-ne0
returns-then-values-ne0 c =
    let sixteen : length (take 16 c.args.digits.now) ≡ 16 = omega (arith, length-take 16 c.args.digits.now)
    in block_none (take 16 c.args.digits.now) c.marked_values-values.result c.marked_values-values.ensures sixteen c.if-values-ne0.true

pub returns : goal.returns
returns c =
    let sixteen : length (take 16 c.args.digits.now) ≡ 16 = omega (arith, length-take 16 c.args.digits.now)
    in block_some (take 16 c.args.digits.now) c.marked_values-values.result c.marked_values-values.ensures sixteen c.if-values-ne0.false
