use Rattle.std.proofs.Common.{◌∙◌, ap, arith}
use Rattle.tydi_base.specs.Binary.{binary_digit}
use Rattle.tydi_base.proofs.BinaryLemmas.{text-start, text-step}
use Rattle.tydi_base.proofs.binary.BinaryWritten.write_to.Goals as goal

pub bits-init : goal.bits-init
bits-init c = (text-start c.args.out.now c.args.self.now.0.now c.len-left.result c.len-left.ensures, omega (arith, c.len-left.ensures))

pub bits-preserved : goal.bits-preserved
bits-preserved c = (
  text-step c.bits.out c.push.new.self c.args.out.now c.args.self.now.0.now c.bits.left c.binary_digit.result c.bits-test.true c.bits.invariant.1 c.bits.invariant.0
      (c.binary_digit.ensures ∙ ap binary_digit c.get.ensures) c.in_ok-push.ensures.ok,
  (let most = c.bits.invariant.1 in omega arith),
)
