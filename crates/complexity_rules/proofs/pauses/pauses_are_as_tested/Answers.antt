use Rattle.complexity_rules.proofs.PauseLemmas.{pauses_tested}
use Rattle.complexity_rules.proofs.pauses.pauses_are_as_tested.Goals as goal

pub returns : goal.returns
returns c = pauses_tested
