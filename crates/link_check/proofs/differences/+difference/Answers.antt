use Rattle.std.proofs.Common.{ap, sym, ◌∙◌}
use Rattle.logical_types.specs.Tree.{Parts, plain, plain_parts}
use Rattle.logical_types.proofs.PlainLemmas.{plain-Group, plain-Union}
use Rattle.link_check.specs.Differences.{difference_inside, difference_in_parts}
use Rattle.link_check.proofs.DifferenceLemmas.{in_parts}
use Rattle.link_check.proofs.differences.+difference.Goals as goal

pub in_types-returns-in-Group : goal.in_types-returns-in-Group
in_types-returns-in-Group t c =
    let sink = plain c.args.sink.now in
    in_parts c.args.reversed (plain c.args.source.now) sink (plain_parts c.as_slice.result.now) (plain_parts c.parts_inside.result.now) c.in_lists.result
    (sym c.why_at.ensures ∙ c.in_default.is)
    (ap (λ ltype. difference_inside c.args.reversed (plain ltype) sink) c.in-Group.is ∙ ap (λ ltype. difference_inside c.args.reversed ltype sink) (plain-Group c.in-Group.parts)
    ∙ ap (λ (others : Parts). difference_in_parts c.args.reversed (plain_parts c.in-Group.parts) others) (sym c.parts_inside.ensures)
    ∙ ap (λ parts. difference_in_parts c.args.reversed (plain_parts parts) (plain_parts c.parts_inside.result.now)) (sym c.as_slice.ensures))
    c.in_lists.ensures

pub in_types-returns-in-Union : goal.in_types-returns-in-Union
in_types-returns-in-Union t c =
    let sink = plain c.args.sink.now in
    in_parts c.args.reversed (plain c.args.source.now) sink (plain_parts c.as_slice-in-Union.result.now) (plain_parts c.parts_inside-in-Union.result.now) c.in_lists-in-Union.result
    (sym c.why_at.ensures ∙ c.in_default.is)
    (ap (λ ltype. difference_inside c.args.reversed (plain ltype) sink) c.in-Union.is ∙ ap (λ ltype. difference_inside c.args.reversed ltype sink) (plain-Union c.in-Union.parts)
    ∙ ap (λ (others : Parts). difference_in_parts c.args.reversed (plain_parts c.in-Union.parts) others) (sym c.parts_inside-in-Union.ensures)
    ∙ ap (λ parts. difference_in_parts c.args.reversed (plain_parts parts) (plain_parts c.parts_inside-in-Union.result.now)) (sym c.as_slice-in-Union.ensures))
    c.in_lists-in-Union.ensures
