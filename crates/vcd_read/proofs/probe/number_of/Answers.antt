use Rattle.vcd_read.proofs.ProbeLemmas.{number-short}
use Rattle.vcd_read.proofs.probe.number_of.Goals as goal

pub returns-in-Some : goal.returns-in-Some
returns-in-Some c = let s = number-short c.args.bits.now c.requires in let e = c.number.ensures in let i = c.in-Some.is in cc

pub returns-in-None : goal.returns-in-None
returns-in-None c = let s = number-short c.args.bits.now c.requires in let e = c.number.ensures in let i = c.in-None.is in cc
