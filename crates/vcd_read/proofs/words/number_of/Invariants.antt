use Rattle.std.proofs.Common.{take}
use Rattle.vcd_read.proofs.NumberWords.{Spells}
use Rattle.vcd_read.proofs.words.number_of.Given as goal

abbrev pub invariant-letters : goal.invariant-letters
invariant-letters l = Spells (take l.letter-index l.letters) l.number
