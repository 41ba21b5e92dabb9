use Rattle.elastic_net.proofs.RewindLemmas.{RewindsOn}
use Rattle.elastic_net.proofs.running.rewind_all.Given as goal

abbrev pub invariant-chains : goal.invariant-chains
invariant-chains g l = RewindsOn g.F.TransferFeed.rest g.F.TransferFeed.whole l.fn.chains l.chains l.place
