use Rattle.logical_value.proofs.LawLemmas.{one_value}
use Rattle.logical_value.proofs.laws.words_have_one_value.Goals as goal

pub returns : goal.returns
returns c = one_value
