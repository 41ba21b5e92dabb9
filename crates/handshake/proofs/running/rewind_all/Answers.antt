use Rattle.std.proofs.Common.{arith}
use Rattle.std.proofs.lemmas.Option.{slice_get-get_or}
use Rattle.handshake.proofs.OfferLemmas.{stands-first}
use Rattle.handshake.proofs.RewindLemmas.{firsts-all, rewinds-all, rewinds-more}
use Rattle.handshake.proofs.running.rewind_all.Goals as goal

pub cursors-preserved : goal.cursors-preserved
cursors-preserved g c =
    rewinds-more g.F.TransferFeed.rest g.F.TransferFeed.whole c.args.cursors.now c.cursors.cursors c.cursors.place _ c.rewind.new.self c.cursors.invariant
    (slice_get-get_or c.cursors.cursors c.cursors.place c.index-cursors-place.result (omega (arith, c.cursors-test.true, c.cursors.auto.cursors)))
    (record { params = c.rewind.ensures.params; gaps = c.rewind.ensures.gaps; all = c.rewind.ensures.whole }) c.rewind.ensures.stands
    (stands-first g.F.TransferFeed.rest g.F.TransferFeed.whole c.rewind.new.self _ c.rewind.ensures.whole c.rewind.ensures.before c.rewind.ensures.rest)

pub returns-clause-rewound : goal.returns-clause-rewound
returns-clause-rewound g c = rewinds-all g.F.TransferFeed.rest g.F.TransferFeed.whole c.args.cursors.now c.cursors.cursors c.cursors.place c.cursors.invariant c.cursors-test.false

pub returns-clause-first : goal.returns-clause-first
returns-clause-first g c = firsts-all g.F.TransferFeed.rest g.F.TransferFeed.whole c.args.cursors.now c.cursors.cursors c.cursors.place c.cursors.invariant c.cursors-test.false
