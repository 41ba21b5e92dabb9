use Rattle.std.proofs.Common.{ℕ, List, map, ap, ◌∙◌, arith}
use Rattle.std.proofs.lemmas.List.{take_all}
use Rattle.tydi_base.specs.Hex.{marked_digit}
use Rattle.tydi_base.proofs.HexLanes.{half_block_none, half_block_some}
use Rattle.tydi_base.proofs.hex_digits.half_block_of.Goals as goal

pub returns-then-values-ne0 : goal.returns-then-values-ne0
returns-then-values-ne0 c =
    let are = c.marked_values-values.ensures ∙ ap (λ (digits : List ℕ). map marked_digit digits) (take_all 8 c.args.digits.now (omega arith))
    in half_block_none c.args.digits.now c.marked_values-values.result are c.requires c.if-values-ne0.true

pub returns : goal.returns
returns c =
    let are = c.marked_values-values.ensures ∙ ap (λ (digits : List ℕ). map marked_digit digits) (take_all 8 c.args.digits.now (omega arith))
    in half_block_some c.args.digits.now c.marked_values-values.result are c.requires c.if-values-ne0.false
