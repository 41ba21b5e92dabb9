use Rattle.til_parser.proofs.rules.Common.{rules, option_and_then}
use Rattle.til_parser.specs.ReadTypes.{if_first, runs_of}
use Rattle.til_parser.proofs.parser.Parser.first_runs.Goals as goal

pub returns : goal.returns
returns c = c.token.ensures (λ spelling. option_and_then if_first (runs_of spelling)) (λ t k m. search rules)
