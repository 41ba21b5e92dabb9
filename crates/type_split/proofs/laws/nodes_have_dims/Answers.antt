use Rattle.type_split.proofs.StandingLemmas.{nodes_have_dims}
use Rattle.type_split.proofs.laws.nodes_have_dims.Goals as goal

pub returns : goal.returns
returns c = nodes_have_dims
