use Rattle.std.proofs.Common.{refl}
use Rattle.elastic_net.proofs.SourceLemmas.{source-sends}
use Rattle.elastic_net.proofs.chain.Chain.send.Goals as goal

pub returns-clause-at : goal.returns-clause-at
returns-clause-at g c = λ ts s ready at now yet none room.
    let self = c.args.self.now in
    source-sends self.params ts self.gaps self.stages s self.past.items self.places.items (g.F.TransferFeed.rest self.feed) self.pause self.tail self.total now self.holds ready _ c.index.result.now _
    c.index-sent.result.now c.saturating_add.result c.place_of-place.result at yet none room self.each at.few c.index-sent.ensures c.saturating_add.ensures c.place_of-place.ensures.is c.place_of-place.ensures.within
    c.index.ensures refl c.tail_after-self.ensures
