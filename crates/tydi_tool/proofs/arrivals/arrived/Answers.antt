use Rattle.link_check.specs.Carry.{carried}
use Rattle.tydi_tool.proofs.arrivals.arrived.Goals as goal

pub returns-in-Ok : goal.returns-in-Ok
returns-in-Ok c = λ t keeps. let a = c.in-Ok.ensures t keeps in (a.0, c.text.ensures (carried c.args.carrier.to.heads t) a.1)
