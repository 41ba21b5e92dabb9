use Rattle.std.proofs.Common.{◌≡◌, map}
use Rattle.plan_text.specs.Blocks.{plan_in}
use Rattle.plan_text.proofs.filling.plans_in.Given as goal

abbrev pub invariant-blocks-2 : goal.invariant-blocks-2
invariant-blocks-2 l = l.plans ≡ map (plan_in l.cycles) l.yielded
