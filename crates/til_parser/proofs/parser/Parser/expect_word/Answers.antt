use Rattle.til_parser.proofs.rules.Common.{rules}
use Rattle.til_parser.specs.Reading.{is_word}
use Rattle.til_parser.proofs.parser.Parser.expect_word.Goals as goal

pub returns : goal.returns
returns c = c.mark.ensures (is_word c.args.word.now) (λ p b k. search rules)
