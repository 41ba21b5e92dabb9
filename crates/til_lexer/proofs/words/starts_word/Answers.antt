use Rattle.std.proofs.Common.{◌∙◌}
use Rattle.til_lexer.proofs.WordLemmas.{starts-ascii}
use Rattle.til_lexer.proofs.words.starts_word.Goals as goal

pub returns-in-len1-up : goal.returns-in-len1-up
returns-in-len1-up c = c.starts_ascii_word.ensures ∙ starts-ascii c.args.text.now c.as_bytes.result.now c.utf8.text c.as_bytes.ensures.value c.in-len1-up.len_at_least c.if-is_ascii.ensures
