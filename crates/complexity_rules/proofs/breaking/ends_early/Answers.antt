use Rattle.std.proofs.Common.{ap, arith}
use Rattle.physical_stream.specs.Params.{Parameters}
use Rattle.complexity_rules.proofs.LaneLemmas.{no_close-All}
use Rattle.complexity_rules.proofs.breaking.ends_early.Goals as goal

pub returns-then-transfer-p : goal.returns-then-transfer-p
returns-then-transfer-p c =
    let decides = no_close-All c.args.p.now c.args.transfer.now _ c.is_none.result c.requires.fits.last c.requires.found c.is_none.ensures in
    let lanes = ap (λ (p : Parameters). p.lanes) c.p.view_is in
    (λ holds. (λ e. omega (arith, c.if-transfer-p.true, c.p.invariant.some_lane), decides.0 holds), λ b. decides.1 b.1)
