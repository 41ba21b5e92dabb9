use Rattle.tydi_base.proofs.WidthLaws.{index_width-least}
use Rattle.tydi_base.proofs.width.index_width_is_least.Goals as goal

pub returns : goal.returns
returns c = index_width-least
