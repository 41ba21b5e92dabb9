use Rattle.std.proofs.Common.{length}
use Rattle.tydi_base.proofs.PathLoops.{Reads}
use Rattle.tydi_base.proofs.path.read_names.Given as goal

abbrev pub invariant-loop-piece : goal.invariant-loop-piece
invariant-loop-piece l = Reads l.colons l.fn.text l.names l.rest

abbrev pub decreases-loop-piece : goal.decreases-loop-piece
decreases-loop-piece l = length l.rest
