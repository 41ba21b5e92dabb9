use Rattle.std.proofs.Common.{refl}
use Rattle.std.proofs.lemmas.Result.{on_ok_weaker}
use Rattle.value_text.specs.Items.{items_of}
use Rattle.value_text.specs.Pending.{lines_text}
use Rattle.value_text.proofs.LineLemmas.{no_user-added, onto-none, user-added}
use Rattle.value_text.proofs.starting.add_user.Goals as goal

pub returns-then-stream-eq0 : goal.returns-then-stream-eq0
returns-then-stream-eq0 c = no_user-added c.args.stream.now _ (items_of c.args.words) (lines_text c.args.lines.now) c.stream.view_is c.if-stream-eq0.true

pub returns : goal.returns
returns c =
    on_ok_weaker c.push-3.result (λ pushed. user-added c.args.stream.now _ (items_of c.args.words) _ _ _ c.args.lines.now c.push.new.self c.push-2.new.self c.push-3.new.self
    c.stream.view_is c.if-stream-eq0.false (onto-none _ c.new-head.result _ c.in_ok-emit.ensures.ok c.new-head.ensures) refl refl c.in_ok-push.ensures.ok c.in_ok-push-2.ensures.ok pushed)
    c.push-3.ensures.ok
