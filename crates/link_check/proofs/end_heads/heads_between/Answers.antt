use Rattle.std.proofs.Common.{map}
use Rattle.std.proofs.lemmas.Slice.Zip.{either_empty_from_Zip}
use Rattle.std.specs.Iterator.Adapters.{zip_first, zip_second}
use Rattle.std.specs.Slice.Iter.{iter_rest}
use Rattle.link_check.specs.Carry as spec
use Rattle.link_check.proofs.EndHeadLemmas.{all-between, can-rise}
use Rattle.link_check.proofs.end_heads.heads_between.Goals as goal

pub returns-clause-heads : goal.returns-clause-heads
returns-clause-heads c =
    all-between (map spec.head_of_stream c.args.source.now) (map spec.head_of_stream c.args.sink.now) (iter_rest (zip_first c.streams.one-iterator)) (iter_rest (zip_second c.streams.one-iterator)) c.streams.heads
    c.streams.invariant (either_empty_from_Zip c.streams.one-iterator c.next.new.self c.next.result c.in-None.is c.next.ensures.steps)

pub returns-clause-rise : goal.returns-clause-rise
returns-clause-rise c =
    can-rise (map spec.head_of_stream c.args.source.now) (map spec.head_of_stream c.args.sink.now) c.streams.heads
    (all-between (map spec.head_of_stream c.args.source.now) (map spec.head_of_stream c.args.sink.now) (iter_rest (zip_first c.streams.one-iterator)) (iter_rest (zip_second c.streams.one-iterator)) c.streams.heads
    c.streams.invariant (either_empty_from_Zip c.streams.one-iterator c.next.new.self c.next.result c.in-None.is c.next.ensures.steps))
