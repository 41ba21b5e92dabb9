use Rattle.type_split.proofs.StandingLemmas.{are_told_where_carried}
use Rattle.type_split.proofs.laws.carried_nodes_are_told.Goals as goal

pub returns : goal.returns
returns c = are_told_where_carried
