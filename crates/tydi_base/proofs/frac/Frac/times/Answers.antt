use Rattle.std.proofs.Common.{arith}
use Rattle.tydi_base.proofs.FracLaws.{no_product-fits}
use Rattle.tydi_base.proofs.frac.Frac.times.Goals.{then-num-via-then-num, then-num-via-else-num+then-den}
use Rattle.tydi_base.proofs.frac.Frac.times.Goals as goal

pub returns-then-num-clause-none : goal.returns-then-num-clause-none
returns-then-num-clause-none c = rw (← c.self.view_is, ← c.other.view_is) (no_product-fits _ _ _ _ c.self.invariant.some c.other.invariant.some c.reduced-num.ensures.reduced (λ fits. elim c.then-num.branch [ then-num-via-then-num w ↦ omega arith | then-num-via-else-num+then-den w ↦ omega arith ]))
