use Rattle.std.proofs.Common.{◌++◌}
use Rattle.value_text.specs.Pending.{rest_of}
use Rattle.value_text.proofs.PendingLemmas.{step-fewer, stepped}
use Rattle.value_text.proofs.filling.write_all.Goals as goal

pub steps-preserved : goal.steps-preserved
steps-preserved c =
    stepped c.in-Some.part c.steps.left c.pop.new.self c.step.new.left c.steps.out c.step.new.out (c.args.out.now ++ rest_of c.args.left.now) c.in-Some.ensures c.in_ok-step.ensures c.steps.invariant

pub steps-smaller : goal.steps-smaller
steps-smaller c = step-fewer c.in-Some.part c.steps.left c.pop.new.self c.step.new.left c.steps.out c.step.new.out c.in-Some.ensures c.in_ok-step.ensures
