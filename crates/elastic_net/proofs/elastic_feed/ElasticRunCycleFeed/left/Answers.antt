use Rattle.std.proofs.Common.{◌∙◌, Some, sym, ap, arith}
use Rattle.std.proofs.lemmas.Option.{slice_get-get_or}
use Rattle.elastic_net.proofs.PortLemmas.{left-over, within_chains}
use Rattle.elastic_net.proofs.elastic_feed.ElasticRunCycleFeed.left.Goals as goal

pub index-requires : goal.index-requires
index-requires g c =
    let self = c.args.self.now in
    let within = within_chains g.F.TransferFeed.rest g.F.TransferFeed.whole self.chains.items self.ready self.orders self.number self.many self.stream self.first self.at c.requires.over c.args.stream c.requires.within in
    omega (arith, within, self.chains.ok.0)

pub returns : goal.returns
returns g c =
    let self = c.args.self.now in
    let within = within_chains g.F.TransferFeed.rest g.F.TransferFeed.whole self.chains.items self.ready self.orders self.number self.many self.stream self.first self.at c.requires.over c.args.stream c.requires.within in
    left-over g.F.TransferFeed.rest g.F.TransferFeed.whole self.chains.items self.ready self.orders self.number self.many self.stream self.first self.at c.requires.over c.args.stream c.requires.within c.index.result.now c.left.result
    (slice_get-get_or self.chains.items c.args.stream c.index.result.now within ∙ ap Some (sym c.index.ensures)) c.left.ensures
