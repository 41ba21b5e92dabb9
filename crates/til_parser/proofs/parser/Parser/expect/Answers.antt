use Rattle.til_parser.proofs.rules.Common.{rules, is_kind}
use Rattle.til_parser.proofs.parser.Parser.expect.Goals as goal

pub returns : goal.returns
returns c = c.mark.ensures (is_kind c.args.kind) (λ p b k. search rules)
