use Rattle.til_parser.proofs.rules.Common.{true, false, ◌∙◌, sym, ap, tells}
use Rattle.til_parser.proofs.LexemeLemmas.{at_end-lexemes}
use Rattle.til_parser.proofs.parser.Parser.is_at_end.Goals as goal

pub returns : goal.returns
returns c = c.is_empty.ensures ∙ sym (at_end-lexemes c.self.inside.text.now c.self.inside.rest.now) ∙ ap (tells (λ _. false) true) c.self.view_is
