use Rattle.std.proofs.Common.{List, take, sym, subst, ◌+◌}
use Rattle.trace_decode.specs.Running.{AreFresh}
use Rattle.trace_decode.specs.declared.stream_kept.StreamKept.{StreamKept}
use Rattle.trace_decode.proofs.RunLemmas.{fresh-more}
use Rattle.trace_decode.proofs.decode_run.fresh_streams.Goals as goal

pub streams-preserved : goal.streams-preserved
streams-preserved c =
    subst (λ (l : List StreamKept). AreFresh (take (c.streams.stream-index + 1) c.args.streams.now) l) (sym c.in_ok-push.ensures.items)
    (fresh-more c.args.streams.now c.streams.stream-index c.stream-item.result c.streams.kept.items c.new.result c.streams.invariant c.streams-test.true c.stream-item.is c.new.ensures)
