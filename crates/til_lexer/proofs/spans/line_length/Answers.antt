use Rattle.std.proofs.Common.{◌∙◌}
use Rattle.memchr.specs.Find.{is_byte}
use Rattle.til_lexer.proofs.PrefixLemmas.{prefix_by_first}
use Rattle.til_lexer.proofs.spans.line_length.Goals as goal

pub returns-clause-value : goal.returns-clause-value
returns-clause-value c = c.unwrap_or.ensures ∙ prefix_by_first (is_byte 10) c.args.bytes.now c.memchr.result c.memchr.ensures
