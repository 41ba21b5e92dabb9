use Rattle.physical_stream.proofs.WidthLemmas.{strobe_decides}
use Rattle.physical_stream.proofs.width.is_strobe.Goals as goal

pub returns-else-lanes-eq128 : goal.returns-else-lanes-eq128
returns-else-lanes-eq128 c = strobe_decides c.args.strb c.args.lanes
