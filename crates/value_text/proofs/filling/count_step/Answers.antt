use Rattle.std.proofs.Common.{arith}
use Rattle.value_text.specs.Pending.{part_steps, part_text}
use Rattle.value_text.proofs.PendingLemmas.{counts-text}
use Rattle.value_text.proofs.filling.count_step.Goals as goal

pub returns-in_ok-step-in-None : goal.returns-in_ok-step-in-None
returns-in_ok-step-in-None c =
    counts-text (part_text c.args.part) (part_steps c.args.part) c.args.left.now c.step.new.left c.truncate.new.self c.step.new.out c.len.result c.in_ok-step-in-None.ensures c.truncate.ensures
    c.len.ensures (omega (arith, c.len.type_inv))
