use Rattle.til_lexer.proofs.SliceLemmas.{tokens_of-are}
use Rattle.til_lexer.proofs.laws.tokens_are_of_the_text.Goals as goal

pub returns : goal.returns
returns c = tokens_of-are
