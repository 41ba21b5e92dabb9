use Rattle.std.proofs.Common.{drop}
use Rattle.vcd_read.proofs.WordLemmas.{AreRead}
use Rattle.vcd_read.proofs.words.read_letters.Given as goal

abbrev pub invariant-letters : goal.invariant-letters
invariant-letters l = AreRead l.letters (drop l.letter-index l.letters) l.states
