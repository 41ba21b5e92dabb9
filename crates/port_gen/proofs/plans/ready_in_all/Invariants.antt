use Rattle.std.proofs.Common.{true, replicate}
use Rattle.port_gen.proofs.PlanLemmas.{IsMaking}
use Rattle.port_gen.proofs.plans.ready_in_all.Given as goal

abbrev pub invariant-streams : goal.invariant-streams
invariant-streams l = IsMaking (replicate l.cycles true) l.streams l.ready l.left

abbrev pub decreases-streams : goal.decreases-streams
decreases-streams l = l.left
