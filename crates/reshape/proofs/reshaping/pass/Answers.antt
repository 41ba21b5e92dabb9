use Rattle.std.proofs.Common.{◌∙◌, not, ap}
use Rattle.reshape.proofs.FrontLemmas.{front-rest}
use Rattle.reshape.proofs.ReshapeLemmas.{items-none, leaves-front}
use Rattle.reshape.proofs.reshaping.pass.Goals as goal

pub returns-then-due-clause-items : goal.returns-then-due-clause-items
returns-then-due-clause-items c =
    leaves-front c.args.buffer.now.params c.args.due c.args.taken c.args.buffer.now.items.items c.release.new.self.items.items _ _ c.if-due.true c.if-not-taken.false
    (front-rest c.args.buffer.now.params c.requires.some c.args.buffer.now.items.items c.args.front c.requires.front) c.release.ensures.items (items-none c.args.from.now c.args.given (c.requires.ready ∙ ap not c.if-due.true))
