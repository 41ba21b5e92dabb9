use Rattle.std.proofs.Common.{◌∙◌}
use Rattle.watch_text.proofs.LineParts.{is_at-none, is_at-some}
use Rattle.watch_text.proofs.line_parts.is_at.Goals as goal

pub returns-in-Some : goal.returns-in-Some
returns-in-Some c = c.is_same.ensures ∙ is_at-some c.args.indent c.args.line.now c.in-Some.rest.now c.args.text.now c.in-Some.ensures

pub returns-in-None : goal.returns-in-None
returns-in-None c = is_at-none c.args.indent c.args.line.now c.args.text.now c.in-None.ensures
