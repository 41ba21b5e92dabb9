use Rattle.std.proofs.Common.{◌≡◌, map, take}
use Rattle.type_split.specs.declared.split.Phys.{Phys}
use Rattle.port_gen.specs.Plans.{ready_plan}
use Rattle.port_gen.proofs.plans.resting_plan.Given as goal

abbrev pub invariant-streams : goal.invariant-streams
invariant-streams l = l.plans ≡ map (λ (stream : Phys). ready_plan 0) (take l._stream-index l.streams)
