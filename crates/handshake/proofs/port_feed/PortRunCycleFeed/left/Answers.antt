use Rattle.std.proofs.Common.{◌∙◌, Some, sym, ap, arith}
use Rattle.std.proofs.lemmas.Option.{slice_get-get_or}
use Rattle.handshake.proofs.PortLemmas.{left-over, within_cursors}
use Rattle.handshake.proofs.port_feed.PortRunCycleFeed.left.Goals as goal

pub index-requires : goal.index-requires
index-requires g c =
    let self = c.args.self.now in
    let within = within_cursors g.F.TransferFeed.rest g.F.TransferFeed.whole self.cursors.items self.ready self.number self.many self.stream self.at c.requires.over c.args.stream c.requires.within in
    omega (arith, within, self.cursors.ok.0)

pub returns : goal.returns
returns g c =
    let self = c.args.self.now in
    let within = within_cursors g.F.TransferFeed.rest g.F.TransferFeed.whole self.cursors.items self.ready self.number self.many self.stream self.at c.requires.over c.args.stream c.requires.within in
    left-over g.F.TransferFeed.rest g.F.TransferFeed.whole self.cursors.items self.ready self.number self.many self.stream self.at c.requires.over c.args.stream c.requires.within c.index.result.now c.left.result
    (slice_get-get_or self.cursors.items c.args.stream c.index.result.now within ∙ ap Some (sym c.index.ensures)) c.left.ensures
