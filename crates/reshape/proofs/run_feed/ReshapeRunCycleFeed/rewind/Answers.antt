use Rattle.std.proofs.Common.{◌∙◌, sym, subst, List, []}
use Rattle.physical_stream.specs.declared.transfer.Transfer.{Transfer}
use Rattle.handshake.specs.Standing.{StandsFor}
use Rattle.reshape.specs.Standing.{to_of}
use Rattle.reshape.proofs.TurnLemmas.{at-start, fits-kept}
use Rattle.reshape.proofs.run_feed.ReshapeRunCycleFeed.rewind.Goals as goal

pub invariant_of-self-clause-at : goal.invariant_of-self-clause-at
invariant_of-self-clause-at g c =
    let self = c.args.self.now in
    at-start c.rewind.new.self.params (to_of c.clear.new.self) (g.F.TransferFeed.whole c.rewind.new.self.feed) c.rewind.new.self.gaps g.F.TransferFeed.rest c.rewind.new.self c.clear.new.self self.ready
    (c.clear.ensures.from ∙ self.at.from ∙ sym c.rewind.ensures.params)
    (subst (λ (ts : List Transfer). StandsFor g.F.TransferFeed.rest c.rewind.new.self ts []) (sym c.rewind.ensures.whole) c.rewind.ensures.stands) c.clear.ensures.buffer

pub invariant_of-self-clause-fits : goal.invariant_of-self-clause-fits
invariant_of-self-clause-fits g c =
    let self = c.args.self.now in
    fits-kept self.near.params c.rewind.new.self.params (g.F.TransferFeed.whole self.near.feed) (g.F.TransferFeed.whole c.rewind.new.self.feed) self.fits c.rewind.ensures.params c.rewind.ensures.whole
