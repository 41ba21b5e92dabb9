use Rattle.std.proofs.Common.{ap}
use Rattle.tydi_base.specs.Frac.{Fraction}
use Rattle.logical_types.specs.declared.streams.Around.{Around}
use Rattle.logical_types.proofs.ThroughputLemmas.{one-is}
use Rattle.logical_types.proofs.streams.around_outermost.Goals as goal

pub returns : goal.returns
returns c =
    let around : Fraction → Around = λ product. record { product = product; dims = 0 } in
    ap around (one-is c.in-Some.product c.in-Some.ensures.value)
