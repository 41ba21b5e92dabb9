use Rattle.port_bench.proofs.FinishingLemmas.{LooksOn}
use Rattle.port_bench.proofs.finishing.finished.Given as goal

abbrev pub invariant-streams : goal.invariant-streams
invariant-streams g l = LooksOn g.F.TransferFeed.rest g.F.TransferFeed.whole l.fn.cursors l.cursors l.ready l.stream
