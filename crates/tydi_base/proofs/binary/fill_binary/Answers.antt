use Rattle.std.proofs.Common.{◌-◌, ◌∙◌, ap, arith, drop, length, List, Bool}
use Rattle.tydi_base.proofs.BinaryLemmas.{fill-start, fill-step, length-put}
use Rattle.tydi_base.proofs.binary.fill_binary.Goals as goal

pub digits-init : goal.digits-init
digits-init c = (fill-start c.args.word.now _ c.requires, omega arith, c.requires)

pub digits-preserved : goal.digits-preserved
digits-preserved c = (
  ap (λ (bits : List Bool). drop (c.digits.left - 1) bits) c.put.ensures
      ∙ fill-step c.args.digits.now c.digits.word c.digits.left c.digits.digit-index c.digits-test.true c.digits.invariant.1 c.digits.invariant.2 c.digits.invariant.0,
  omega (arith, c.digits.invariant.1, c.digits-test.true),
  ap (λ (bits : List Bool). length bits) c.put.ensures ∙ length-put c.digits.word (c.digits.left - 1) _ ∙ c.digits.invariant.2,
)
