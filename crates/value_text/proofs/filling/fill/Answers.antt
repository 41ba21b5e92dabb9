use Rattle.std.proofs.Common.{◌++◌, List, ℕ, ap, sym}
use Rattle.value_text.specs.Pending.{rest_of}
use Rattle.value_text.proofs.PendingLemmas.{step-fewer, stepped}
use Rattle.value_text.proofs.filling.fill.Goals as goal

pub steps-init : goal.steps-init
steps-init c = ap (λ (l : List ℕ). l ++ rest_of c.args.left.now) (sym c.requires)

pub steps-preserved : goal.steps-preserved
steps-preserved c = stepped c.in-Some.part c.steps.left c.pop.new.self c.step.new.left c.steps.piece c.step.new.out (rest_of c.args.left.now) c.in-Some.ensures c.in_ok-step-in-Some.ensures c.steps.invariant

pub steps-smaller : goal.steps-smaller
steps-smaller c = step-fewer c.in-Some.part c.steps.left c.pop.new.self c.step.new.left c.steps.piece c.step.new.out c.in-Some.ensures c.in_ok-step-in-Some.ensures
