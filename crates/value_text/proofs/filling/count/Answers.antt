use Rattle.std.proofs.Common.{length, arith}
use Rattle.value_text.specs.Pending.{rest_of}
use Rattle.value_text.proofs.PendingLemmas.{counted-fewer, counted-more}
use Rattle.value_text.proofs.filling.count.Goals as goal

pub steps-preserved : goal.steps-preserved
steps-preserved c = record {
  bytes = counted-more c.in-Some.part c.steps.left c.pop.new.self c.count_step.new.left (length (rest_of c.args.left.now)) c.steps.bytes c.in_ok-more.more c.saturating_add-bytes.result
      c.in-Some.ensures c.in_ok-more.ensures c.saturating_add-bytes.ensures c.steps.invariant.bytes;
  few = omega (arith, c.saturating_add-bytes.ensures);
}

pub steps-smaller : goal.steps-smaller
steps-smaller c = counted-fewer c.in-Some.part c.steps.left c.pop.new.self c.count_step.new.left c.in_ok-more.more c.in-Some.ensures c.in_ok-more.ensures
