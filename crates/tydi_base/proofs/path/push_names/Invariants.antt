use Rattle.std.proofs.Common.{drop}
use Rattle.tydi_base.proofs.PathLoops.{Writes}
use Rattle.tydi_base.proofs.path.push_names.Given as goal

abbrev pub invariant-loop-name : goal.invariant-loop-name
invariant-loop-name l = Writes l.colons l.fn.out l.fn.names l.out (drop l.name-index l.others)
