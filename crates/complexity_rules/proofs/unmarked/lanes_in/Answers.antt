use Rattle.std.proofs.Common.{◌≡◌, ap, arith}
use Rattle.physical_stream.specs.Params.{Parameters}
use Rattle.complexity_rules.proofs.unmarked.lanes_in.Goals as goal

pub returns-then-p-eq1 : goal.returns-then-p-eq1
returns-then-p-eq1 c =
    let one : c.args.p.now.dims ≡ 1 = omega (arith, ap (λ (p : Parameters). p.dims) c.p.view_is, c.if-p-eq1.true) in
    rw one (omega arith)
