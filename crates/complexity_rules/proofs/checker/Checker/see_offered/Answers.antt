use Rattle.std.proofs.Common.{Some, refl, ap}
use Rattle.complexity_rules.proofs.CheckerLemmas.{Keeps-offered}
use Rattle.complexity_rules.proofs.checker.Checker.see_offered.Goals as goal

pub returns : goal.returns
returns c = record {
  params = refl;
  stands = λ cycles stands. Keeps-offered c.args.self.now.params cycles _ _ _ _ _ _ _ _ _ refl (ap Some c.copy_from.ensures) refl stands;
  seen = refl;
}
