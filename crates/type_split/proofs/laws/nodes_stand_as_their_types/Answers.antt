use Rattle.type_split.proofs.StandingLemmas.{nodes_stand}
use Rattle.type_split.proofs.laws.nodes_stand_as_their_types.Goals as goal

pub returns : goal.returns
returns c = nodes_stand
