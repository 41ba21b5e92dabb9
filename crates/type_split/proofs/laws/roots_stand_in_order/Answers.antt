use Rattle.type_split.proofs.StandingLemmas.{roots_in_order}
use Rattle.type_split.proofs.laws.roots_stand_in_order.Goals as goal

pub returns : goal.returns
returns c = roots_in_order
