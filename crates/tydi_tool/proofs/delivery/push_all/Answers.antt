use Rattle.std.proofs.Common.{arith}
use Rattle.tydi_tool.proofs.DeliveryLemmas.{Adds-more}
use Rattle.tydi_tool.proofs.delivery.push_all.Goals as goal

pub loop-at-preserved : goal.loop-at-preserved
loop-at-preserved g c = record {
  within = omega (arith, c.in_ok-at.ensures.within);
  added = Adds-more _ _ _ _ _ _ c.loop-at.invariant.added c.in_ok-at.ensures.taken;
  counted = omega (arith, c.in_ok-at.ensures.cause.later);
}
