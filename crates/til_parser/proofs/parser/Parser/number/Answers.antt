use Rattle.til_parser.proofs.rules.Common.{rules, Some, lowest, numerator_of, denominator_of}
use Rattle.til_parser.proofs.parser.Parser.number.Goals as goal

pub returns : goal.returns
returns c = c.token.ensures (λ spelling. Some (lowest (numerator_of spelling) (denominator_of spelling))) (λ t k m. search rules)
