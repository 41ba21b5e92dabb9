use Rattle.logical_value.proofs.AgreeingLemmas.{agrees_with_one}
use Rattle.logical_value.proofs.laws.words_agree_with_one_value.Goals as goal

pub returns : goal.returns
returns c = agrees_with_one
