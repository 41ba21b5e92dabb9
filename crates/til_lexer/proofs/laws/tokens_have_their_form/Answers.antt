use Rattle.til_lexer.proofs.FormLemmas.{tokens-have_form}
use Rattle.til_lexer.proofs.laws.tokens_have_their_form.Goals as goal

pub returns : goal.returns
returns c = tokens-have_form
