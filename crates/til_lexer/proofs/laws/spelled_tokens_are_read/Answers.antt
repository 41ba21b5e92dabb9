use Rattle.til_lexer.proofs.SpelledTokens.{spelled_tokens-read, own_text-spelled}
use Rattle.til_lexer.proofs.laws.spelled_tokens_are_read.Goals as goal

pub returns-clause-read : goal.returns-clause-read
returns-clause-read c = spelled_tokens-read

pub returns-clause-texts : goal.returns-clause-texts
returns-clause-texts c = own_text-spelled
