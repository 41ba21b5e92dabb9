use Rattle.std.proofs.Common.{arith}
use Rattle.vcd_read.proofs.ProbeLemmas.{index-short}
use Rattle.vcd_read.proofs.probe.index_of.Goals as goal

pub overflow_cast-result : goal.overflow_cast-result
overflow_cast-result c = let s = index-short c.args.bits.now c.requires in let e = c.number_of.ensures in grind (arith, s, e)
