use Rattle.std.proofs.Common.{drop}
use Rattle.scheduler.specs.Filling.{IsMarkedSoFar}
use Rattle.scheduler.proofs.closing.mark_run.Given as goal

abbrev pub invariant-ends : goal.invariant-ends
invariant-ends l = IsMarkedSoFar l.p (drop l.place l.items) l.lane l.initial.last (drop l.at l.items) l.least l.last
