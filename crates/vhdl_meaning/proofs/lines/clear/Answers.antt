use Rattle.std.proofs.Common.{arith}
use Rattle.vhdl_meaning.proofs.lines.clear.Goals as goal

pub put-requires : goal.put-requires
put-requires c = let less = c.bits-test.true in let long = c.bits.invariant.long in omega (arith, less, long)
