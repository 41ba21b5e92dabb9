use Rattle.testbench.proofs.NumberWordLemmas.{number-made, number-there}
use Rattle.testbench.proofs.words.number_word.Goals as goal

pub unreachable-requires : goal.unreachable-requires
unreachable-requires c = number-there c.args.width c.args.number c.in_ok-bits.field-0 c.requires c.in_ok-bits.ensures c.in-None.is

pub returns : goal.returns
returns c = number-made c.args.width c.args.number c.in_ok-bits.field-0 c.in-Some.bits c.requires c.in_ok-bits.ensures c.in-Some.is
