use Rattle.tydi_base.proofs.SliceLemmas.{copied_part}
use Rattle.tydi_base.proofs.slices.copy_part.Goals as goal

pub returns : goal.returns
returns c =
    copied_part c.args.bytes.now c.args.source.now c.args.at c.args.from c.args.count c.part_of-part.result c.with_part.result
    c.requires.room c.requires.one c.requires.some c.part_of-part.ensures c.with_part.ensures
