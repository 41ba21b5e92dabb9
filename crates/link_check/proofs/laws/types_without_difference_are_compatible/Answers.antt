use Rattle.link_check.proofs.CompatibleLemmas.{no_difference_is_compatible}
use Rattle.link_check.proofs.laws.types_without_difference_are_compatible.Goals as goal

pub returns : goal.returns
returns c = no_difference_is_compatible
