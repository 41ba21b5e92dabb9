use Rattle.std.proofs.Common.{arith, length, min, ◌≡◌, ◌+◌, ◌∙◌}
use Rattle.tydi_base.specs.Lengths.{most_bytes}
use Rattle.trace_pieces.specs.Rows.{rows_from}
use Rattle.trace_pieces.proofs.RowLemmas.{AreShownFrom-next, CountsRow-ends, counted-all, counted-row}
use Rattle.trace_pieces.proofs.counting.count_rows.Goals as goal

pub rows-preserved : goal.rows-preserved
rows-preserved g c =
    let sum : c.saturating_add-bytes.result ≡ min (c.rows.bytes + c.in-Some.more) most_bytes = c.saturating_add-bytes.ensures in
    record {
      shown = AreShownFrom-next c.args.streams.now c.rows.stream _ (g.C.CycleFeed.rows c.rows.feed) _ c.stream_behind-stream.ensures c.in-Some.ensures.rows c.rows.invariant.shown;
      bytes = counted-row c.args.streams.now c.rows.stream _ (g.C.CycleFeed.rows c.rows.feed) _ (length (rows_from c.args.streams.now 0 (g.C.CycleFeed.rows c.args.feed.now))) c.rows.bytes c.in-Some.more
          c.saturating_add-bytes.result most_bytes c.stream_behind-stream.ensures c.in-Some.ensures.rows c.in-Some.ensures.counts c.rows.invariant.bytes sum;
      few = omega (arith, sum);
      whole = c.in-Some.ensures.whole ∙ c.rows.invariant.whole;
      undone = c.in-Some.ensures.undone ∙ c.rows.invariant.undone;
    }

pub returns-clause-bytes : goal.returns-clause-bytes
returns-clause-bytes g c =
    counted-all (length (rows_from c.args.streams.now 0 (g.C.CycleFeed.rows c.args.feed.now))) c.rows.bytes most_bytes c.args.streams.now c.rows.stream (g.C.CycleFeed.rows c.rows.feed)
    (CountsRow-ends c.args.streams.now c.rows.stream (g.C.CycleFeed.rows c.rows.feed) c.count_row.result c.in_default.not-Some c.count_row.ensures.counts) c.rows.invariant.few c.rows.invariant.bytes
