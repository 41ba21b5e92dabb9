use Rattle.std.proofs.Common.{◌∙◌}
use Rattle.reshape.specs.Standing.{to_of}
use Rattle.reshape.proofs.TurnLemmas.{left-over, one-number}
use Rattle.reshape.proofs.run_feed.ReshapeRunCycleFeed.left.Goals as goal

pub returns : goal.returns
returns g c =
    let self = c.args.self.now in
    one-number _ c.args._stream c.saturating_sub.result
    (c.saturating_sub.ensures ∙ left-over self.near.params (to_of self.reshaper) (g.F.TransferFeed.whole self.near.feed) self.near.gaps self.ready self.number self.at.within c.requires.over self.done self.planned self.count self.all) c.requires.within
