use Rattle.elastic_net.proofs.SourceLemmas.{source-waits}
use Rattle.elastic_net.proofs.chain.Chain.wait.Goals as goal

pub returns-clause-at : goal.returns-clause-at
returns-clause-at g c = λ ts s ready at now full rests.
    let self = c.args.self.now in
    source-waits self.params ts self.gaps self.stages s self.past.items self.places.items (g.F.TransferFeed.rest self.feed) self.pause self.tail self.total now self.holds ready c.saturating_sub-self.result at full rests c.saturating_sub-self.ensures
