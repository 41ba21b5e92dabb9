use Rattle.std.proofs.Common.{length}
use Rattle.vhdl_text.proofs.TakingLemmas.{HeadsSoFar}
use Rattle.vhdl_text.proofs.stream_comments.read_heads.Given as goal

abbrev pub invariant-lines : goal.invariant-lines
invariant-lines l = HeadsSoFar l.initial.lines l.heads l.paths l.lines

abbrev pub decreases-lines : goal.decreases-lines
decreases-lines l = length l.lines
