use Rattle.std.proofs.Common.{◌≡◌, ◌++◌, [], length, min, ◌+◌, ◌≤◌}
use Rattle.tydi_base.specs.Lengths.{most_bytes}
use Rattle.handshake.specs.Offers.{AreBefore}
use Rattle.handshake.specs.Turns.{KeepRuns}
use Rattle.testbench.specs.Pieces.{lines_left, parts_left, writings_of}
use Rattle.testbench.proofs.filling.count.Given as goal

abbrev pub invariant-parts : goal.invariant-parts
invariant-parts g l = record {
  before : AreBefore g.F.TransferFeed.rest g.F.TransferFeed.whole l.cursors;
  kept : KeepRuns g.F.TransferFeed.whole l.fn.cursors l.cursors;
  empty : l.piece ≡ [];
  bytes : min (length (lines_left l.heads l.fn.spot (writings_of g.F.TransferFeed.rest g.F.TransferFeed.whole l.fn.cursors))) most_bytes ≡ min (l.bytes + length (lines_left l.heads l.spot (writings_of g.F.TransferFeed.rest g.F.TransferFeed.whole l.cursors))) most_bytes;
  few : l.bytes ≤ most_bytes;
}

abbrev pub decreases-parts : goal.decreases-parts
decreases-parts g l = parts_left l.spot (writings_of g.F.TransferFeed.rest g.F.TransferFeed.whole l.cursors)
