use Rattle.scheduler.specs.Filling.{IsFilledSoFar}
use Rattle.scheduler.proofs.filling.put_lanes.Given as goal

abbrev pub invariant-lanes : goal.invariant-lanes
invariant-lanes l = IsFilledSoFar l.p l.way l.items l.place l.lane l.at l.initial.into l.into
