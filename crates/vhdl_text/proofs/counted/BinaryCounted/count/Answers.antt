use Rattle.std.proofs.Common.{arith}
use Rattle.vhdl_text.proofs.LineLemmas.{length-binary}
use Rattle.vhdl_text.proofs.counted.BinaryCounted.count.Goals as goal

pub returns : goal.returns
returns c = omega (arith, length-binary c.args.self.now.0.now, c.len.ensures)
