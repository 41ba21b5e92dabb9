use Rattle.elastic_net.proofs.CycleLemmas.{ActsOn}
use Rattle.elastic_net.proofs.ordering.act_in_order.Given as goal

abbrev pub invariant-components : goal.invariant-components
invariant-components g l = ActsOn g.F.TransferFeed.rest g.F.TransferFeed.whole l.fn.chain l.chain l.first l.order l.ready l.component-index
