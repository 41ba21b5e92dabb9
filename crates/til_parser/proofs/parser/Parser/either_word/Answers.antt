use Rattle.til_parser.proofs.rules.Common.{rules}
use Rattle.til_parser.specs.ReadTypes.{either_of}
use Rattle.til_parser.proofs.parser.Parser.either_word.Goals as goal

pub returns : goal.returns
returns c = c.token.ensures (either_of c.args.first.now c.args.second.now) (λ t k m. search rules)
