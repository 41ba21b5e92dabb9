use Rattle.logical_value.proofs.LawLemmas.{bad_tags_agree_with_none}
use Rattle.logical_value.proofs.laws.bad_tags_stand_for_nothing.Goals as goal

pub returns : goal.returns
returns c = bad_tags_agree_with_none
