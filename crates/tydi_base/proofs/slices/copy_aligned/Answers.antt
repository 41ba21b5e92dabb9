use Rattle.std.proofs.Common.{arith}
use Rattle.tydi_base.proofs.SliceLemmas.{copied_on}
use Rattle.tydi_base.proofs.slices.copy_aligned.Goals as goal

pub returns-then-done-count : goal.returns-then-done-count
returns-then-done-count c =
    copied_on c.args.bytes.now c.copy_middle-done.new.bytes c.copy_part.new.bytes c.args.source.now c.args.at c.args.from c.copy_middle-done.result
    c.args.count c.requires.room c.requires.within (omega arith) c.copy_middle-done.ensures.copied c.copy_part.ensures
