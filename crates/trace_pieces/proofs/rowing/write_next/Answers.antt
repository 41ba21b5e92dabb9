use Rattle.tydi_base.specs.declared.memory.Memory.{Memory}
use Rattle.trace_pieces.proofs.RowLemmas.{AreShownFrom-next, WritesRow-ok, at-index, first-shown, first-within}
use Rattle.trace_pieces.proofs.rowing.write_next.Goals as goal

pub write_row-requires : goal.write_row-requires
write_row-requires g c = record {
  shown = first-shown c.args.streams.now c.args.stream.now (g.C.CycleFeed.rows c.args.feed.now) c.index-streams-at.result c.in-Some.row c.requires.shown
      (at-index c.args.streams.now c.args.stream.now c.index-streams-at.result (first-within c.args.streams.now c.args.stream.now (g.C.CycleFeed.rows c.args.feed.now) c.in-Some.row c.requires.shown c.in-Some.ensures.first) c.index-streams-at.is) c.in-Some.ensures.first;
}

pub returns-in_err-write_row-in-Some-clause-shown : goal.returns-in_err-write_row-in-Some-clause-shown
returns-in_err-write_row-in-Some-clause-shown g c =
    AreShownFrom-next c.args.streams.now c.args.stream.now _ (g.C.CycleFeed.rows c.args.feed.now) _ c.stream_behind.ensures c.next.follows.holds-at-none.0 c.requires.shown

pub returns-in_ok-write_row-in-Some-clause-writes : goal.returns-in_ok-write_row-in-Some-clause-writes
returns-in_ok-write_row-in-Some-clause-writes g c =
    WritesRow-ok Memory c.args.streams.now c.args.stream.now _ (g.C.CycleFeed.rows c.args.feed.now) c.index-streams-at.result c.in-Some.row c.args.piece.now _
    (at-index c.args.streams.now c.args.stream.now c.index-streams-at.result (first-within c.args.streams.now c.args.stream.now (g.C.CycleFeed.rows c.args.feed.now) c.in-Some.row c.requires.shown c.in-Some.ensures.first) c.index-streams-at.is) c.in-Some.ensures.first c.stream_behind.ensures
    c.in_ok-write_row-in-Some.ensures.ok

pub returns-in_ok-write_row-in-Some-clause-shown : goal.returns-in_ok-write_row-in-Some-clause-shown
returns-in_ok-write_row-in-Some-clause-shown g c =
    AreShownFrom-next c.args.streams.now c.args.stream.now _ (g.C.CycleFeed.rows c.args.feed.now) _ c.stream_behind.ensures c.next.follows.holds-at-none.0 c.requires.shown
