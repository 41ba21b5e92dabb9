use Rattle.tydi_base.proofs.FracLaws.{IsReduced-divided}
use Rattle.tydi_base.proofs.frac.reduced.Goals as goal

pub returns-clause-reduced : goal.returns-clause-reduced
returns-clause-reduced c = IsReduced-divided _ _ _ c.requires c.greatest_divisor-divisor.ensures.some c.greatest_divisor-divisor.ensures.greatest
