use Rattle.til_parser.proofs.rules.Common.{rules, keyword_of}
use Rattle.til_parser.proofs.parser.Parser.keyword.Goals as goal

pub returns : goal.returns
returns c = c.token.ensures keyword_of (λ t k m. search rules)
