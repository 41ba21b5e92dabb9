use Rattle.type_split.proofs.ElementLemmas.{nodes_have_elements}
use Rattle.type_split.proofs.laws.nodes_have_elements.Goals as goal

pub returns : goal.returns
returns c = nodes_have_elements
