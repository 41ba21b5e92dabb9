use Rattle.tydi_tool.proofs.ArrivalLemmas.{arrival-finished}
use Rattle.tydi_tool.proofs.arrivals.arrival_of.Goals as goal

pub returns-in-Ok : goal.returns-in-Ok
returns-in-Ok c = λ heads bytes has finishes. arrival-finished c.args.word.now heads c.in-Ok.carrier c.args.finished c.arrived.result c.in-Ok.is c.arrived.ensures bytes has finishes
