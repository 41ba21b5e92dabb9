use Rattle.std.proofs.Common.{refl, ap, if◌then◌else◌, Bool, Some, None}
use Rattle.complexity_rules.proofs.CheckerLemmas.{Keeps-pause}
use Rattle.complexity_rules.proofs.checker.Checker.see_pause.Goals as goal

pub returns : goal.returns
returns c ready = record {
  params = refl;
  stands = λ cycles stands.
      Keeps-pause c.args.self.now.params cycles ready _ _ _ _ _ _ _
      (ap (λ (waits : Bool). if waits then Some c.args.self.now.offered else None) c.requires.free) refl stands;
  seen = refl;
}
