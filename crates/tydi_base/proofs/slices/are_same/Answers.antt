use Rattle.tydi_base.proofs.SliceLemmas.{one_compared}
use Rattle.tydi_base.proofs.slices.are_same.Goals as goal

pub returns-then-others-eq1 : goal.returns-then-others-eq1
returns-then-others-eq1 c = one_compared c.args.bytes.now c.args.others.now c.if-bytes-eq1.true c.if-others-eq1.true
