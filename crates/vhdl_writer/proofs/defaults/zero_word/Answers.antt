use Rattle.tydi_base.proofs.BitsLemmas.{bits_of-zero}
use Rattle.vhdl_writer.proofs.defaults.zero_word.Goals as goal

pub returns : goal.returns
returns c = rw (bits_of-zero c.args.width) c.zeros.ensures
