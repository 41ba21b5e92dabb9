use Rattle.std.proofs.Common.{◌∙◌, ap}
use Rattle.tydi_base.specs.Bits.{written_at}
use Rattle.tydi_base.proofs.SliceLemmas.{whole_part}
use Rattle.tydi_base.proofs.bits.Bits.put_word.Goals as goal

pub returns : goal.returns
returns c = c.copy_bits.ensures ∙ ap (λ word. written_at c.args.offset word c.args.self.now) (whole_part c.args.word.now c.len.result c.len.ensures)
