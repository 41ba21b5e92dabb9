use Rattle.std.proofs.Common.{List, subst, sym, arith}
use Rattle.elastic_net.specs.Nets.{AreOrders}
use Rattle.elastic_net.specs.Ports.{AreAt, stages_in}
use Rattle.elastic_net.specs.declared.chain.Chain.{Chain}
use Rattle.elastic_net.proofs.PortLemmas.{at-new}
use Rattle.elastic_net.proofs.elastic_run.ElasticRun.new.Goals as goal

pub invariant_of-result : goal.invariant_of-result
invariant_of-result g c = record {
  at = subst (λ (l : List (Chain g.row.F.Denot g.F.TransferFeed)). AreAt g.F.TransferFeed.rest g.F.TransferFeed.whole l c.args.ready c.args.orders 0 c.args.cycles 0 0) (sym c.into_vec.ensures)
      (at-new g.F.TransferFeed.rest g.F.TransferFeed.whole c.args.chains c.args.ready c.args.orders c.args.cycles c.requires.same c.requires.long c.requires.stands);
  few = omega (arith, c.ranges.cycles.fits);
  ordered = subst (λ (l : List (Chain g.row.F.Denot g.F.TransferFeed)). AreOrders (stages_in l) c.args.orders) (sym c.into_vec.ensures) c.requires.ordered;
}
