use Rattle.til_parser.proofs.rules.Common.{rules}
use Rattle.til_parser.specs.ReadTypes.{runs_of}
use Rattle.til_parser.proofs.parser.Parser.runs.Goals as goal

pub returns : goal.returns
returns c = c.token.ensures runs_of (λ t k m. search rules)
