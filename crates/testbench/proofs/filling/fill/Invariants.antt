use Rattle.std.proofs.Common.{◌≡◌, ◌++◌, length}
use Rattle.handshake.specs.Offers.{AreBefore}
use Rattle.handshake.specs.Turns.{KeepRuns}
use Rattle.testbench.specs.Pieces.{lines_left, parts_left, writings_of}
use Rattle.testbench.proofs.filling.fill.Given as goal

abbrev pub invariant-parts : goal.invariant-parts
invariant-parts g l = record {
  before : AreBefore g.F.TransferFeed.rest g.F.TransferFeed.whole l.cursors;
  kept : KeepRuns g.F.TransferFeed.whole l.fn.cursors l.cursors;
  made : lines_left l.heads l.fn.spot (writings_of g.F.TransferFeed.rest g.F.TransferFeed.whole l.fn.cursors) ≡ l.piece ++ lines_left l.heads l.spot (writings_of g.F.TransferFeed.rest g.F.TransferFeed.whole l.cursors);
}

abbrev pub decreases-parts : goal.decreases-parts
decreases-parts g l = parts_left l.spot (writings_of g.F.TransferFeed.rest g.F.TransferFeed.whole l.cursors)
