use Rattle.port_drive.proofs.FinishLemmas.{IsUnfinishedFrom}
use Rattle.port_drive.proofs.measuring.finished.Given as goal

abbrev pub invariant-streams : goal.invariant-streams
invariant-streams g l = IsUnfinishedFrom l.stream (g.C.CycleFeed.undone l.feed)
