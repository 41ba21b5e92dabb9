use Rattle.std.proofs.Common.{arith}
use Rattle.vhdl_meaning.proofs.lines.index_of.Goals as goal
use Rattle.vhdl_meaning.proofs.RunningLemmas.{index-short}

-- src/lines.rt:32:5
pub overflow_cast-result : goal.overflow_cast-result
overflow_cast-result c = let s = index-short c.args.bits.now c.requires in let e = c.number_of.ensures in grind (arith, s, e)
