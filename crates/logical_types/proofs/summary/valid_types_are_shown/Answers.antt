use Rattle.logical_types.proofs.ShownLemmas.{valid-types-shown}
use Rattle.logical_types.proofs.summary.valid_types_are_shown.Goals as goal

pub returns : goal.returns
returns c = valid-types-shown
