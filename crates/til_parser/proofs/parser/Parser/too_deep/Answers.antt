use Rattle.til_parser.proofs.rules.Common.{◌∙◌, sym}
use Rattle.til_parser.proofs.LexemeLemmas.{TooDeep-first}
use Rattle.til_parser.proofs.parser.Parser.too_deep.Goals as goal

pub returns-in-len1-up : goal.returns-in-len1-up
returns-in-len1-up c = rw (← c.self.view_is)
    (TooDeep-first c.self.inside.text.now c.self.inside.rest.now _ c.self.invariant.formed c.in-len1-up.len_at_least (sym c.same_kind.ensures ∙ c.if-same_kind.true))
