use Rattle.til_parser.proofs.LawLemmas.{trees_apart}
use Rattle.til_parser.proofs.laws.trees_are_apart.Goals as goal

pub returns : goal.returns
returns c = trees_apart
