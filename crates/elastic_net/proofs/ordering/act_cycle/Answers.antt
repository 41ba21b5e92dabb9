use Rattle.std.proofs.Common.{sym}
use Rattle.elastic_net.proofs.CycleLemmas.{cycle-past, cycle-there}
use Rattle.elastic_net.proofs.RoomLemmas.{past-none}
use Rattle.elastic_net.proofs.SourceLemmas.{get-read}
use Rattle.elastic_net.proofs.ordering.act_cycle.Goals as goal

pub returns-in-Some-clause-stands : goal.returns-in-Some-clause-stands
returns-in-Some-clause-stands g c =
    cycle-there g.F.TransferFeed.rest g.F.TransferFeed.whole c.args.chain.now c.act_in_order.new.chain c.args.first c.args.number c.args.orders.now c.in-Some.order.now c.as_slice.result.now c.args.ready
    (sym (get-read c.args.orders.now c.args.number c.in-Some.order.now c.in-Some.ensures.lookup.3.0 c.in-Some.ensures.lookup.1)) c.as_slice.ensures c.act_in_order.ensures.stands

pub returns-in-None-clause-stands : goal.returns-in-None-clause-stands
returns-in-None-clause-stands g c = λ ts s base total stands fresh at fit are.
    cycle-past g.F.TransferFeed.rest g.F.TransferFeed.whole c.args.chain.now c.act_in_turn.new.chain base c.args.number c.args.orders.now c.args.ready (sym (past-none c.args.orders.now c.args.number c.in-None.ensures.lookup.3)) c.act_in_turn.ensures.stands ts s stands fresh
