use Rattle.std.proofs.Common.{refl, arith}
use Rattle.complexity_rules.proofs.CheckerLemmas.{IsJudged-none, IsTailIn-effect, Keeps-taken}
use Rattle.complexity_rules.proofs.checker.Checker.see_done.Goals as goal

pub invariant_of-self : goal.invariant_of-self
invariant_of-self c = record {
  room = c.args.self.now.room;
  judged = IsJudged-none _ _ _ _ _ refl;
  tail_in = IsTailIn-effect c.args.self.now.params c.requires.changes.0 c.args.self.now.tail c.args.effect c.requires.changes.1 c.args.self.now.tail_in;
  few_transfers = omega (arith, c.args.self.now.few_transfers);
  few_packets = omega (arith, c.args.self.now.few_packets);
}

pub returns : goal.returns
returns c t found = record {
  params = refl;
  stands = λ cycles stands.
      Keeps-taken c.args.self.now.params cycles t c.args.self.now.seen _ _ c.args.self.now.tail c.args.self.now.transfers _ c.args.self.now.packets _ c.args.effect
      refl refl refl found stands;
  seen = refl;
}
