use Rattle.std.proofs.Common.{◌∙◌}
use Rattle.watch_text.proofs.SoFarLemmas.{inside-is}
use Rattle.watch_text.proofs.so_far.SoFar.go_inside.Goals as goal

pub returns : goal.returns
returns c =
    inside-is c.args.self.now c.args.opening c.inside-self.result c.replace-stmts.new.dest c.replace-stmts.result c.push.new.self c.inside-self.ensures (c.replace-stmts.ensures.after ∙ c.new.ensures)
    c.replace-stmts.ensures.value c.in_ok-push.ensures.ok
