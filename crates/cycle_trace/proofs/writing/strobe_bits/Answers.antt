use Rattle.cycle_trace.proofs.WritingLemmas.{no_strobe_word, strobe_word}
use Rattle.cycle_trace.proofs.writing.strobe_bits.Goals as goal

pub unreachable-requires : goal.unreachable-requires
unreachable-requires c = no_strobe_word c.from.result c.args.lanes c.args.strb c.in_ok-bits.field-0 c.requires c.from.ensures c.in_ok-bits.ensures c.in-None.is

pub returns : goal.returns
returns c = strobe_word c.from.result c.args.lanes c.args.strb c.in_ok-bits.field-0 c.in-Some.bits c.requires c.from.ensures c.in_ok-bits.ensures c.in-Some.is
