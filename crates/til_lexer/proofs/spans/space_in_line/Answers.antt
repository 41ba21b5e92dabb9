use Rattle.std.proofs.Common.{not, ◌&&◌, eqb, ◌∙◌, rules, tests}
use Rattle.std.proofs.lemmas.Iterator.{YieldsList-from_slice}
use Rattle.std.proofs.lemmas.Iterator.Search.{position_from_yields_List}
use Rattle.til_lexer.specs.Spans.{is_space}
use Rattle.til_lexer.proofs.PrefixLemmas.{prefix_by_position}
use Rattle.til_lexer.proofs.spans.space_in_line.Goals as goal

pub returns : goal.returns
returns c =
    c.unwrap_or.ensures
    ∙ prefix_by_position (λ byte. not (eqb byte 10) && is_space byte) c.args.bytes.now c.position.result
    (position_from_yields_List (λ byte. not (not (eqb byte 10) && is_space byte)) _ _ c.position.result c.position.ensures.ran (YieldsList-from_slice _ c.iter.ensures.rest) (λ x b q k. search (rules, tests)))
