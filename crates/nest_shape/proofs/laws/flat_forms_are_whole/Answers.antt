use Rattle.nest_shape.proofs.LawLemmas.{flat_forms_whole}
use Rattle.nest_shape.proofs.laws.flat_forms_are_whole.Goals as goal

pub returns : goal.returns
returns c = flat_forms_whole
