use Rattle.til_parser.proofs.rules.Common.{rules, whole_of}
use Rattle.til_parser.proofs.parser.Parser.whole.Goals as goal

pub returns : goal.returns
returns c = c.token.ensures whole_of (λ t k m. search rules)
