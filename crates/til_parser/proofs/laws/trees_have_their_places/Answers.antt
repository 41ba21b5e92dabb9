use Rattle.til_parser.proofs.LawLemmas.{trees-have_places}
use Rattle.til_parser.proofs.laws.trees_have_their_places.Goals as goal

pub returns : goal.returns
returns c = trees-have_places
