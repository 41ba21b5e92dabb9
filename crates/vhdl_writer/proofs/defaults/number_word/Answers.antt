use Rattle.vhdl_writer.proofs.WordLemmas.{word-made, word-there}
use Rattle.vhdl_writer.proofs.defaults.number_word.Goals as goal

pub unreachable-requires : goal.unreachable-requires
unreachable-requires c = word-there c.args.width c.args.number c.in_ok-word.field-0 c.requires c.in_ok-word.ensures c.in-None.is

pub returns : goal.returns
returns c = word-made c.args.width c.args.number c.in_ok-word.field-0 c.in-Some.word c.requires c.in_ok-word.ensures c.in-Some.is
