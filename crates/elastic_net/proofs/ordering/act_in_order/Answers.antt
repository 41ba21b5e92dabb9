use Rattle.std.proofs.Common.{slice_index, arith}
use Rattle.std.proofs.lemmas.List.{get_or_default}
use Rattle.elastic_net.proofs.CycleLemmas.{acts-based, acts-more}
use Rattle.elastic_net.proofs.ordering.act_in_order.Goals as goal

pub components-preserved : goal.components-preserved
components-preserved g c =
    acts-more g.F.TransferFeed.rest g.F.TransferFeed.whole c.args.chain.now c.components.chain c.act_own.new.chain c.components.invariant.kept c.args.first (slice_index c.args.order.now c.components.component-index) c.args.ready
    c.args.order.now c.components.component-index c.components.invariant c.act_own.ensures.kept c.act_own.ensures.stands c.components-test.true
    (get_or_default c.args.order.now c.components.component-index 0 (slice_index c.args.order.now c.components.component-index) c.components-test.true)

pub returns-clause-stands : goal.returns-clause-stands
returns-clause-stands g c =
    acts-based g.F.TransferFeed.rest g.F.TransferFeed.whole c.args.chain.now c.components.chain c.args.first c.args.order.now c.args.ready c.components.component-index c.components.invariant c.components-test.false (λ k less. omega (arith, c.type_inv.order k))
