use Rattle.elastic_net.proofs.ActLemmas.{filled_now}
use Rattle.elastic_net.proofs.chain.Chain.fill.Goals as goal

pub returns-then-self-clause-at : goal.returns-then-self-clause-at
returns-then-self-clause-at g c = λ ts s at.
    let self = c.args.self.now in
    filled_now self.params ts self.gaps self.stages s self.past.items self.places.items (g.F.TransferFeed.rest self.feed) self.pause self.tail self.total self.holds c.next-self.result
    c.index.result.now c.place_of-place.result c.gap-self.result _ c.next-self.new.into (g.F.TransferFeed.rest c.next-self.new.self) at self.each c.if-not-self.true c.if-self.true
    c.index.ensures c.place_of-place.ensures.is c.place_of-place.ensures.within c.next-self.ensures.fed c.gap-self.ensures
