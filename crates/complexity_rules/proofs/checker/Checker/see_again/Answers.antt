use Rattle.std.proofs.Common.{Some, None, Bool, if◌then◌else◌, refl, ap}
use Rattle.complexity_rules.proofs.CheckerLemmas.{Keeps-offered}
use Rattle.complexity_rules.proofs.checker.Checker.see_again.Goals as goal

pub returns-else-ready : goal.returns-else-ready
returns-else-ready c = record {
  params = refl;
  stands = λ cycles stands.
      Keeps-offered c.args.self.now.params cycles c.args.ready c.args.self.now.offered _ _ _ _ _ _ _ c.if-ready.false
      (ap (λ (waits : Bool). if waits then Some c.args.self.now.offered else None) c.requires.waits) refl stands;
  seen = refl;
}
