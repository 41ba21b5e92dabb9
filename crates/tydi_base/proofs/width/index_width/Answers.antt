use Rattle.std.proofs.Common.{arith}
use Rattle.tydi_base.proofs.WidthLaws.{index_width-log}
use Rattle.tydi_base.proofs.width.index_width.Goals as goal

pub returns-else-n-le1-clause-value : goal.returns-else-n-le1-clause-value
returns-else-n-le1-clause-value c = index_width-log c.args.n c.ilog2.result (omega arith) c.ilog2.ensures.power_le c.ilog2.ensures.next_power_gt
