use Rattle.std.proofs.Common.{map}
use Rattle.std.specs.Iterator.Adapters.{zip_first, zip_second}
use Rattle.std.specs.Slice.Iter.{iter_rest}
use Rattle.link_check.specs.Carry.{head_of_stream}
use Rattle.link_check.proofs.EndHeadLemmas.{AreSoFar}
use Rattle.link_check.proofs.end_heads.heads_between.Given as goal

-- the heads so far and those of the streams that are left are all heads
abbrev pub invariant-streams : goal.invariant-streams
invariant-streams l = AreSoFar (map head_of_stream l.source) (map head_of_stream l.sink) (map head_of_stream (iter_rest (zip_first l.one-iterator))) (map head_of_stream (iter_rest (zip_second l.one-iterator))) l.heads
