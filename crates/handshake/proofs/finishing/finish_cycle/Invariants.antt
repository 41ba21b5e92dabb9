use Rattle.handshake.proofs.FinishLemmas.{RunsOn}
use Rattle.handshake.proofs.finishing.finish_cycle.Given as goal

abbrev pub invariant-cycles : goal.invariant-cycles
invariant-cycles g l = RunsOn g.F.TransferFeed.rest g.F.TransferFeed.whole l.fn.cursor l.cursor l.ready l.bit-index l.number l.finished
