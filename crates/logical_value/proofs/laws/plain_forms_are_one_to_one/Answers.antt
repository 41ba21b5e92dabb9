use Rattle.logical_value.proofs.PlainLemmas.{plain_is_one_to_one}
use Rattle.logical_value.proofs.laws.plain_forms_are_one_to_one.Goals as goal

pub returns : goal.returns
returns c = plain_is_one_to_one
