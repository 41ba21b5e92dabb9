use Rattle.std.proofs.Common.{arith, ap, sym, Some, ◌∙◌}
use Rattle.std.proofs.lemmas.List.{take_rest}
use Rattle.watch_text.proofs.LineParts.{at-other, at-short, at-some}
use Rattle.watch_text.proofs.line_parts.text_at.Goals as goal

pub returns-then-line-indent : goal.returns-then-line-indent
returns-then-line-indent c = at-short c.args.indent c.args.line.now (omega (arith, c.if-line-indent.true))

pub returns-then-are_spaces : goal.returns-then-are_spaces
returns-then-are_spaces c =
    ap Some (take_rest c.args.line.now c.args.indent) ∙ at-some c.args.indent c.args.line.now (omega (arith, c.if-line-indent.false)) (sym c.are_spaces.ensures ∙ c.if-are_spaces.true)

pub returns : goal.returns
returns c = at-other c.args.indent c.args.line.now (sym c.are_spaces.ensures ∙ c.if-are_spaces.false)
