use Rattle.std.proofs.Common.{◌≡◌, ◌++◌, length}
use Rattle.trace_pieces.specs.Rows.{AreShownFrom, rows_from}
use Rattle.trace_pieces.proofs.filling.fill.Given as goal

abbrev pub invariant-rows : goal.invariant-rows
invariant-rows g l = record {
  shown : AreShownFrom l.streams l.stream (g.C.CycleFeed.rows l.feed);
  made : rows_from l.streams l.fn.stream (g.C.CycleFeed.rows l.fn.feed) ≡ l.piece ++ rows_from l.streams l.stream (g.C.CycleFeed.rows l.feed);
  whole : g.C.CycleFeed.whole l.feed ≡ g.C.CycleFeed.whole l.fn.feed;
}

abbrev pub decreases-rows : goal.decreases-rows
decreases-rows g l = length (g.C.CycleFeed.rows l.feed)
