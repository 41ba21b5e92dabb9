use Rattle.std.proofs.Common.{ap}
use Rattle.physical_stream.specs.Params.{Parameters}
use Rattle.complexity_rules.proofs.StrobeLemmas.{BreaksStrobe-test}
use Rattle.complexity_rules.proofs.breaking.has_mixed_strobe.Goals as goal

pub returns-then-transfer-ne0 : goal.returns-then-transfer-ne0
returns-then-transfer-ne0 c =
    BreaksStrobe-test c.args.p.now c.args.transfer.now c.p.inside.lanes c.is_all_ones.result c.requires.strb c.if-transfer-ne0.true (ap (λ (p : Parameters). p.lanes) c.p.view_is) c.is_all_ones.ensures
