use Rattle.til_parser.proofs.LawLemmas.{trees-have_form}
use Rattle.til_parser.proofs.laws.trees_have_their_form.Goals as goal

pub returns : goal.returns
returns c = trees-have_form
