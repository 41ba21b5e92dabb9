use Rattle.til_parser.proofs.rules.Common.{◌∙◌, sym}
use Rattle.til_parser.proofs.LexemeLemmas.{HasForm-first}
use Rattle.til_parser.proofs.parser.Parser.next_of.Goals as goal

pub returns-in-len1-up-clause-formed : goal.returns-in-len1-up-clause-formed
returns-in-len1-up-clause-formed c =
    HasForm-first c.self.inside.text.now c.self.inside.rest.now _ c.args.kind c.spelling.result.now c.self.invariant.formed c.in-len1-up.len_at_least
    (sym c.same_kind.ensures ∙ c.if-same_kind.true) c.spelling.ensures
