use Rattle.std.proofs.Common.{◌≡◌, ◌+◌, ◌≤◌, length, min}
use Rattle.tydi_base.specs.Lengths.{most_bytes}
use Rattle.trace_pieces.specs.Rows.{AreShownFrom, rows_from}
use Rattle.trace_pieces.proofs.counting.count_rows.Given as goal

abbrev pub invariant-rows : goal.invariant-rows
invariant-rows g l = record {
  shown : AreShownFrom l.streams l.stream (g.C.CycleFeed.rows l.feed);
  bytes : min (length (rows_from l.streams 0 (g.C.CycleFeed.rows l.fn.feed))) most_bytes ≡ min (l.bytes + length (rows_from l.streams l.stream (g.C.CycleFeed.rows l.feed))) most_bytes;
  few : l.bytes ≤ most_bytes;
  whole : g.C.CycleFeed.whole l.feed ≡ g.C.CycleFeed.whole l.fn.feed;
  undone : g.C.CycleFeed.undone l.feed ≡ g.C.CycleFeed.undone l.fn.feed;
}

abbrev pub decreases-rows : goal.decreases-rows
decreases-rows g l = length (g.C.CycleFeed.rows l.feed)
