use Rattle.std.proofs.Common.{◌∙◌, true, false, refl, None, sym}
use Rattle.complexity_rules.proofs.CheckerLemmas.{IsStep-seen, IsStep-kept, IsStep-hold, waiting_none, waiting_some}
use Rattle.complexity_rules.proofs.LowestLemmas.{lowest_held}
use Rattle.complexity_rules.proofs.checker.Checker.step_pause.Goals as goal

pub returns-then-has_waiting : goal.returns-then-has_waiting
returns-then-has_waiting c =
    IsStep-hold c.args.self.now _ c.hold.result c.hold.ensures.rule
    (λ before stands.
    lowest_held c.args.self.now.params before c.args._ready None c.args.self.now.offered c.hold.ensures.binds
    (waiting_some c.args.self.now before (sym c.has_waiting.ensures ∙ c.if-has_waiting.true) stands) (λ same. cc))

pub returns-then-is_none : goal.returns-then-is_none
returns-then-is_none c =
    IsStep-seen c.args.self.now c.see_pause.new.self _ c.judge_pause-broken.result true c.if-is_none.ensures refl
    (λ before stands.
    c.judge_pause-broken.ensures before c.args._ready (waiting_none c.args.self.now before (sym c.has_waiting.ensures ∙ c.if-has_waiting.false) stands) stands.tail)
    (c.see_pause.ensures c.args._ready)

pub returns-else-is_none : goal.returns-else-is_none
returns-else-is_none c =
    IsStep-kept c.args.self.now _ c.judge_pause-broken.result false c.if-is_none.ensures refl
    (λ before stands.
    c.judge_pause-broken.ensures before c.args._ready (waiting_none c.args.self.now before (sym c.has_waiting.ensures ∙ c.if-has_waiting.false) stands) stands.tail)
