use Rattle.handshake.proofs.RewindLemmas.{RewindsOn}
use Rattle.handshake.proofs.running.rewind_all.Given as goal

abbrev pub invariant-cursors : goal.invariant-cursors
invariant-cursors g l = RewindsOn g.F.TransferFeed.rest g.F.TransferFeed.whole l.fn.cursors l.cursors l.place
