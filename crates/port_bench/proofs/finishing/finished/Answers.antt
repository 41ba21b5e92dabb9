use Rattle.std.proofs.Common.{◌∙◌, get_or, ap, arith}
use Rattle.std.proofs.lemmas.Option.{slice_get-get_or}
use Rattle.handshake.specs.Run.{undone}
use Rattle.port_bench.proofs.FinishingLemmas.{finishes-all, finishes-here, kept-more, looks-first, looks-more}
use Rattle.port_bench.proofs.finishing.finished.Goals as goal

pub streams-init : goal.streams-init
streams-init g c = looks-first g.F.TransferFeed.rest g.F.TransferFeed.whole c.args.cursors.now c.args.ready.now c.requires.same

pub streams-preserved : goal.streams-preserved
streams-preserved g c =
    looks-more g.F.TransferFeed.rest g.F.TransferFeed.whole c.args.cursors.now c.args.ready.now c.requires.same c.streams.cursors c.streams.stream
    (get_or c.streams.cursors c.streams.stream c.index-cursors-stream.result) c.left_after-left.new.cursor (get_or c.args.ready.now c.streams.stream c.index-ready-stream.result) c.left_after-left.result c.streams.invariant
    (slice_get-get_or c.streams.cursors c.streams.stream c.index-cursors-stream.result (omega (arith, c.streams-test.true, c.streams.invariant.kept.many)))
    (slice_get-get_or c.args.ready.now c.streams.stream c.index-ready-stream.result (omega (arith, c.streams-test.true, c.requires.same)))
    c.left_after-left.ensures.kept
    (c.left_after-left.ensures.left ∙ ap (undone (get_or c.streams.cursors c.streams.stream c.index-cursors-stream.result).params (g.F.TransferFeed.whole (get_or c.streams.cursors c.streams.stream c.index-cursors-stream.result).feed) (get_or c.streams.cursors c.streams.stream c.index-cursors-stream.result).gaps) (c.as_slice.ensures ∙ c.index-ready-stream.is)) c.if-left-gt0.false

pub returns-then-left-gt0-clause-finishes : goal.returns-then-left-gt0-clause-finishes
returns-then-left-gt0-clause-finishes g c =
    finishes-here g.F.TransferFeed.rest g.F.TransferFeed.whole c.args.cursors.now c.args.ready.now c.requires.same c.streams.cursors c.streams.stream
    (get_or c.streams.cursors c.streams.stream c.index-cursors-stream.result) c.left_after-left.new.cursor (get_or c.args.ready.now c.streams.stream c.index-ready-stream.result) c.left_after-left.result c.streams.invariant
    (slice_get-get_or c.streams.cursors c.streams.stream c.index-cursors-stream.result (omega (arith, c.streams-test.true, c.streams.invariant.kept.many)))
    (slice_get-get_or c.args.ready.now c.streams.stream c.index-ready-stream.result (omega (arith, c.streams-test.true, c.requires.same)))
    c.left_after-left.ensures.kept
    (c.left_after-left.ensures.left ∙ ap (undone (get_or c.streams.cursors c.streams.stream c.index-cursors-stream.result).params (g.F.TransferFeed.whole (get_or c.streams.cursors c.streams.stream c.index-cursors-stream.result).feed) (get_or c.streams.cursors c.streams.stream c.index-cursors-stream.result).gaps) (c.as_slice.ensures ∙ c.index-ready-stream.is)) c.if-left-gt0.true

pub returns-then-left-gt0-clause-kept : goal.returns-then-left-gt0-clause-kept
returns-then-left-gt0-clause-kept g c =
    kept-more g.F.TransferFeed.rest g.F.TransferFeed.whole c.args.cursors.now c.args.ready.now c.requires.same c.streams.cursors c.streams.stream
    (get_or c.streams.cursors c.streams.stream c.index-cursors-stream.result) c.left_after-left.new.cursor (get_or c.args.ready.now c.streams.stream c.index-ready-stream.result) c.left_after-left.result c.streams.invariant
    (slice_get-get_or c.streams.cursors c.streams.stream c.index-cursors-stream.result (omega (arith, c.streams-test.true, c.streams.invariant.kept.many)))
    (slice_get-get_or c.args.ready.now c.streams.stream c.index-ready-stream.result (omega (arith, c.streams-test.true, c.requires.same)))
    c.left_after-left.ensures.kept
    (c.left_after-left.ensures.left ∙ ap (undone (get_or c.streams.cursors c.streams.stream c.index-cursors-stream.result).params (g.F.TransferFeed.whole (get_or c.streams.cursors c.streams.stream c.index-cursors-stream.result).feed) (get_or c.streams.cursors c.streams.stream c.index-cursors-stream.result).gaps) (c.as_slice.ensures ∙ c.index-ready-stream.is))

pub returns-clause-finishes : goal.returns-clause-finishes
returns-clause-finishes g c = finishes-all g.F.TransferFeed.rest g.F.TransferFeed.whole c.args.cursors.now c.args.ready.now c.requires.same c.streams.cursors c.streams.stream c.streams.invariant (omega (arith, c.streams-test.false))
