use Rattle.std.proofs.Common.{true, false, refl}
use Rattle.complexity_rules.proofs.CheckerLemmas.{IsLowestShown-none, IsStep-seen, IsStep-kept, waiting_none}
use Rattle.complexity_rules.proofs.LowestLemmas.{lowest_free}
use Rattle.complexity_rules.proofs.checker.Checker.step_first.Goals as goal

pub see_first-requires-clause-kept : goal.see_first-requires-clause-kept
see_first-requires-clause-kept c =
    IsLowestShown-none c.args.self.now.params c.args.self.now.tail c.args.transfer.now c.judge_shown-judged.result.broken true c.if-is_none.ensures refl c.judge_shown-judged.ensures.lowest

pub returns-then-is_none : goal.returns-then-is_none
returns-then-is_none c =
    IsStep-seen c.args.self.now c.see_first.new.self _ c.judge_shown-judged.result.broken true c.if-is_none.ensures refl
    (λ before stands.
    lowest_free c.args.self.now.params before c.args.ready c.args.transfer.now c.args.self.now.tail c.judge_shown-judged.result.broken
    (waiting_none c.args.self.now before c.requires.free stands) stands.tail c.judge_shown-judged.ensures.lowest) c.see_first.ensures

pub returns-else-is_none : goal.returns-else-is_none
returns-else-is_none c =
    IsStep-kept c.args.self.now _ c.judge_shown-judged.result.broken false c.if-is_none.ensures refl
    (λ before stands.
    lowest_free c.args.self.now.params before c.args.ready c.args.transfer.now c.args.self.now.tail c.judge_shown-judged.result.broken
    (waiting_none c.args.self.now before c.requires.free stands) stands.tail c.judge_shown-judged.ensures.lowest)
