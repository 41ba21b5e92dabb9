use Rattle.til_parser.proofs.rules.Common.{rules, sync_of}
use Rattle.til_parser.proofs.parser.Parser.sync.Goals as goal

pub returns : goal.returns
returns c = c.token.ensures sync_of (λ t k m. search rules)
