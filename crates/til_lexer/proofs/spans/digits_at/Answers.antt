use Rattle.std.proofs.Common.{not, ◌∙◌, rules, tests}
use Rattle.std.specs.Char.{is_ascii_digit}
use Rattle.std.proofs.lemmas.Iterator.{YieldsList-from_slice}
use Rattle.std.proofs.lemmas.Iterator.Search.{position_from_yields_List}
use Rattle.til_lexer.proofs.PrefixLemmas.{prefix_by_position}
use Rattle.til_lexer.proofs.spans.digits_at.Goals as goal

pub returns-clause-value : goal.returns-clause-value
returns-clause-value c =
    c.unwrap_or.ensures
    ∙ prefix_by_position is_ascii_digit c.args.bytes.now c.position.result
    (position_from_yields_List (λ byte. not (is_ascii_digit byte)) _ _ c.position.result c.position.ensures.ran (YieldsList-from_slice _ c.iter.ensures.rest) (λ x b q k. search (rules, tests)))
