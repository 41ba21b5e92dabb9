use Rattle.trace_pieces.proofs.RowLemmas.{CountsRow-some, at-index, first-shown, first-within}
use Rattle.trace_pieces.proofs.counting.count_row.Goals as goal

pub row_length-requires : goal.row_length-requires
row_length-requires g c = record {
  shown = first-shown c.args.streams.now c.args.stream (g.C.CycleFeed.rows c.args.feed.now) c.index-streams-stream.result c.in-Some.row c.requires.shown
      (at-index c.args.streams.now c.args.stream c.index-streams-stream.result (first-within c.args.streams.now c.args.stream (g.C.CycleFeed.rows c.args.feed.now) c.in-Some.row c.requires.shown c.in-Some.ensures.first) c.index-streams-stream.is) c.in-Some.ensures.first;
}

pub returns-in-Some-clause-counts : goal.returns-in-Some-clause-counts
returns-in-Some-clause-counts g c = CountsRow-some c.args.streams.now c.args.stream (g.C.CycleFeed.rows c.args.feed.now) c.index-streams-stream.result c.in-Some.row c.row_length.result
    (at-index c.args.streams.now c.args.stream c.index-streams-stream.result (first-within c.args.streams.now c.args.stream (g.C.CycleFeed.rows c.args.feed.now) c.in-Some.row c.requires.shown c.in-Some.ensures.first) c.index-streams-stream.is) c.in-Some.ensures.first c.row_length.ensures
