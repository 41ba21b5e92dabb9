use Rattle.std.proofs.Common.{◌-◌, drop}
use Rattle.scheduler.specs.Filling.{IsMarkedSoFar}
use Rattle.reshape.proofs.filling.mark_run.Given as goal

abbrev pub invariant-ends : goal.invariant-ends
invariant-ends l = IsMarkedSoFar l.p (drop l.place l.items.items) (l.p.lanes - 1) l.initial.last (drop l.at l.items.items) l.least l.last
