use Rattle.elastic_net.proofs.CycleLemmas.{CountsOn}
use Rattle.elastic_net.proofs.ordering.act_in_turn.Given as goal

abbrev pub invariant-components : goal.invariant-components
invariant-components g l = CountsOn g.F.TransferFeed.rest g.F.TransferFeed.whole l.fn.chain l.chain l.ready l.component
