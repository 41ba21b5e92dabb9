use Rattle.std.proofs.Common.{◌∙◌}
use Rattle.til_lexer.proofs.PrefixLemmas.{prefix_by_two}
use Rattle.til_lexer.proofs.spans.unmarked_in_line.Goals as goal

pub returns : goal.returns
returns c = c.unwrap_or.ensures ∙ prefix_by_two c.args.mark 10 c.args.bytes.now c.memchr2.result c.memchr2.ensures
