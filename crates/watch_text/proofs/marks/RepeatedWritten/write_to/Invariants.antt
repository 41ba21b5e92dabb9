use Rattle.std.proofs.Common.{replicate}
use Rattle.watch_text.proofs.LoopLemmas.{IsBegun}
use Rattle.watch_text.proofs.marks.RepeatedWritten.write_to.Given as goal

-- the bytes so far, with those that are left, are all
abbrev pub invariant-bytes : goal.invariant-bytes
invariant-bytes l = IsBegun l.initial.out l.out (replicate l.left l.self.0) (replicate l.self.1 l.self.0)

abbrev pub decreases-bytes : goal.decreases-bytes
decreases-bytes l = l.left
