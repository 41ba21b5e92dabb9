use Rattle.std.proofs.Common.{true, false}
use Rattle.handshake.proofs.OfferLemmas.{before-next, before-still, offers-none, offers-one}
use Rattle.handshake.specs.Offers.{offered, taken_before}
use Rattle.handshake.proofs.cursor.Cursor.offer.Goals as goal

pub returns-then-not-self-clause-offers : goal.returns-then-not-self-clause-offers
returns-then-not-self-clause-offers g c = λ ts before.
    offers-none g.F.TransferFeed.rest g.F.TransferFeed.whole c.args.self.now c.fill.new.self c.fill.new.self ts before
    (c.fill.ensures.stands ts (offered (taken_before ts (g.F.TransferFeed.rest c.args.self.now.feed))) before.follows) c.fill.ensures.params c.fill.ensures.gaps
    c.if-not-self.true (c.fill.ensures.full c.if-not-self.true)

pub returns-then-not-self-clause-before : goal.returns-then-not-self-clause-before
returns-then-not-self-clause-before g c = λ ts before.
    before-still g.F.TransferFeed.rest g.F.TransferFeed.whole c.args.self.now c.fill.new.self c.fill.new.self ts before
    (c.fill.ensures.stands ts (offered (taken_before ts (g.F.TransferFeed.rest c.args.self.now.feed))) before.follows) c.fill.ensures.params c.fill.ensures.gaps
    c.if-not-self.true

pub returns-clause-offers : goal.returns-clause-offers
returns-clause-offers g c = λ ts before.
    offers-one g.F.TransferFeed.rest g.F.TransferFeed.whole c.args.self.now c.fill.new.self c.take.new.self ts before
    (c.fill.ensures.stands ts (offered (taken_before ts (g.F.TransferFeed.rest c.args.self.now.feed))) before.follows) c.fill.ensures.params c.fill.ensures.gaps
    c.if-not-self.false c.take.ensures.held c.take.ensures.rest

pub returns-clause-before : goal.returns-clause-before
returns-clause-before g c = λ ts before.
    before-next g.F.TransferFeed.rest g.F.TransferFeed.whole c.args.self.now c.fill.new.self c.take.new.self ts before
    (c.fill.ensures.stands ts (offered (taken_before ts (g.F.TransferFeed.rest c.args.self.now.feed))) before.follows) c.fill.ensures.params c.fill.ensures.gaps
    c.if-not-self.false c.take.ensures.free c.take.ensures.rest
    (c.take.ensures.stands ts (offered (taken_before ts (g.F.TransferFeed.rest c.args.self.now.feed))) (c.fill.ensures.stands ts (offered (taken_before ts (g.F.TransferFeed.rest c.args.self.now.feed))) before.follows))
