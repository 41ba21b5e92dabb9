use Rattle.physical_stream.specs.Cycles.{cycle_in}
use Rattle.link_check.specs.Carry.{carried}
use Rattle.link_check.proofs.CarrierLemmas.{can-rise, can_take-carried, hands-more, hands-on}
use Rattle.link_check.proofs.carrier.CarrierRowSink.row.Goals as goal

pub row-requires : goal.row-requires
row-requires g c =
    let self = c.args.self.now in
    let t = c.requires.0 in
    let on = hands-on g.K.RowSink.stands_for self.from self.to.heads self.sink t self.other c.in-None.is c.requires.1.0.1 in
    (carried self.to.heads t, (on.1, can_take-carried t self.to.heads (cycle_in c.args.row) (can-rise g.K.RowSink.stands_for self.from self.to.heads t on.0 c.requires.1.0.0) c.requires.1.1))

pub returns-in-None-clause-taken : goal.returns-in-None-clause-taken
returns-in-None-clause-taken g c t stands can =
    let self = c.args.self.now in
    hands-more g.K.RowSink.stands_for self.from self.to.heads self.sink c.row.new.self t (cycle_in c.args.row) self.other c.row.result stands.0 c.in-None.is can c.row.ensures.taken stands.1
