use Rattle.til_parser.proofs.rules.Common.{length, ◌∙◌, sym, ap}
use Rattle.til_parser.proofs.LexemeLemmas.{length-lexemes}
use Rattle.til_parser.proofs.parser.Parser.left.Goals as goal

pub returns : goal.returns
returns c = sym (length-lexemes c.self.inside.text.now c.self.inside.rest.now) ∙ ap length c.self.view_is
