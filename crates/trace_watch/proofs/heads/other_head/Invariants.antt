use Rattle.trace_decode.proofs.HeadLemmas.{SameBefore}
use Rattle.trace_watch.proofs.heads.other_head.Given as goal

abbrev pub invariant-heads : goal.invariant-heads
invariant-heads l = SameBefore l.heads l.others l.place
