use Rattle.std.proofs.Common.{arith}
use Rattle.value_views.proofs.QueueLemmas.{none-left, push-done, push-next}
use Rattle.value_views.proofs.filling.+push_last.Goals as goal

pub rest-preserved : goal.rest-preserved
rest-preserved t c =
    push-next c.args.depth c.rest.rest c.pop.new.self c.in-Some.value c.into_members.result c.rest.queue c.push_last.new.queue _ (let some = c.if-depth-eq0.false in omega (arith, some))
    c.in-Some.ensures c.into_members.ensures c.in_ok-push_last.ensures c.rest.invariant

pub returns : goal.returns
returns t c = push-done c.args.depth c.rest.rest c.rest.queue _ (none-left c.pop.result c.rest.rest c.pop.new.self c.pop.ensures c.in_default.not-Some) c.rest.invariant
