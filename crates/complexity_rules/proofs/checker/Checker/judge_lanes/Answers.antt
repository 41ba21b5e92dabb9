use Rattle.complexity_rules.proofs.checker.Checker.judge_lanes.Goals as goal

pub returns-clause-changes : goal.returns-clause-changes
returns-clause-changes c = c.effect.ensures.effect _ _ _ c.walk_over-items.ensures.found
