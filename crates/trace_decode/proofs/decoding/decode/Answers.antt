use Rattle.std.proofs.Common.{◌∙◌, subst}
use Rattle.type_split.specs.Streams.{PlainSplit}
use Rattle.cycle_trace.specs.TraceView.{trace_view}
use Rattle.trace_decode.specs.Outcome.{IsDecoded}
use Rattle.trace_decode.proofs.decoding.decode.Goals as goal

pub finish-requires : goal.finish-requires
finish-requires c = (trace_view c.args.trace.now, c.in_ok-replay.ensures.replayed)

pub returns : goal.returns
returns c =
    subst (λ (split : PlainSplit). IsDecoded split (trace_view c.args.trace.now) c.finish.result) (c.in_ok-replay.ensures.setting ∙ c.new-decoder.ensures.split)
    (c.finish.ensures (trace_view c.args.trace.now) c.in_ok-replay.ensures.replayed)
