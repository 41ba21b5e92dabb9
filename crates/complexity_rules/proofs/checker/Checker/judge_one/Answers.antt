use Rattle.complexity_rules.proofs.checker.Checker.judge_one.Goals as goal

pub returns-clause-lowest : goal.returns-clause-lowest
returns-clause-lowest c = c.lowest_of_one.ensures c.args.transfer.now c.requires.fits c.walk_over_one-walk.ensures.found

pub returns-clause-changes : goal.returns-clause-changes
returns-clause-changes c = c.effect.ensures.effect _ _ _ c.walk_over_one-walk.ensures.found
