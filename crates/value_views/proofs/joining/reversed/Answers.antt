use Rattle.value_views.proofs.PortFillLemmas.{reverse-done, reverse-next}
use Rattle.value_views.proofs.joining.reversed.Goals as goal

pub rest-preserved : goal.rest-preserved
rest-preserved c = reverse-next c.rest.some c.push.new.self c.rest.rest c.pop.new.self c.in-Some.one _ c.in_ok-push.ensures.ok c.in-Some.ensures c.rest.invariant

pub returns : goal.returns
returns c = reverse-done c.pop.result c.rest.some c.rest.rest c.pop.new.self _ c.pop.ensures c.in_default.not-Some c.rest.invariant
