use Rattle.vhdl_meaning.proofs.lines.number_of.Goals as goal
use Rattle.vhdl_meaning.proofs.RunningLemmas.{number-short}

-- src/lines.rt:17:1
pub returns-in-Some : goal.returns-in-Some
returns-in-Some c = let s = number-short c.args.bits.now c.requires in let e = c.number.ensures in let i = c.in-Some.is in cc

-- src/lines.rt:17:1
pub returns-in-None : goal.returns-in-None
returns-in-None c = let s = number-short c.args.bits.now c.requires in let e = c.number.ensures in let i = c.in-None.is in cc
