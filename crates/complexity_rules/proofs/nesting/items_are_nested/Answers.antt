use Rattle.complexity_rules.proofs.NestingLemmas.{items_nested}
use Rattle.complexity_rules.proofs.nesting.items_are_nested.Goals as goal

pub returns : goal.returns
returns c = items_nested
