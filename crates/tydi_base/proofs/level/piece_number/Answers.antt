use Rattle.std.proofs.Common.{sym, ◌∙◌, arith}
use Rattle.tydi_base.proofs.LevelLaws.{piece-ends, piece-great, piece-none}
use Rattle.tydi_base.proofs.level.piece_number.Goals as goal

pub returns-in_err-number : goal.returns-in_err-number
returns-in_err-number c = c.from_residual.ensures ∙ sym (piece-none c.args.last c.args.piece.now (sym c.read_decimal.ensures ∙ c.in_err-number.was))

pub returns-then-number-gt255 : goal.returns-then-number-gt255
returns-then-number-gt255 c = sym (piece-great c.args.last c.args.piece.now c.in_ok-number.number (sym c.read_decimal.ensures ∙ c.in_ok-number.was) (omega (arith, c.if-number-gt255.true)))

pub returns-then-last-number : goal.returns-then-last-number
returns-then-last-number c =
    sym (piece-ends c.args.last c.args.piece.now c.in_ok-number.number (sym c.read_decimal.ensures ∙ c.in_ok-number.was) (omega (arith, c.if-number-gt255.false)) _ c.if-last-number.true)

pub returns : goal.returns
returns c =
    sym (piece-ends c.args.last c.args.piece.now c.in_ok-number.number (sym c.read_decimal.ensures ∙ c.in_ok-number.was) (omega (arith, c.if-number-gt255.false)) _ c.if-last-number.false)
