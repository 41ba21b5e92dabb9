use Rattle.tydi_base.proofs.SliceLemmas.{one_copied}
use Rattle.tydi_base.proofs.slices.copy_bytes.Goals as goal

pub returns-then-from-eq1 : goal.returns-then-from-eq1
returns-then-from-eq1 c = one_copied c.args.bytes.now c.args.from.now c.requires c.if-from-eq1.true
