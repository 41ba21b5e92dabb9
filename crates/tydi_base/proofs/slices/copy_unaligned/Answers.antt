use Rattle.std.proofs.Common.{arith}
use Rattle.tydi_base.proofs.SliceLemmas.{copied_on}
use Rattle.tydi_base.proofs.slices.copy_unaligned.Goals as goal

pub returns-then-begun-count : goal.returns-then-begun-count
returns-then-begun-count c =
    copied_on c.args.bytes.now c.copy_part.new.bytes c.copy_aligned.new.bytes c.args.source.now c.args.at c.args.from c.min-begun.result
    c.args.count c.requires.room c.requires.within (omega arith) c.copy_part.ensures c.copy_aligned.ensures
