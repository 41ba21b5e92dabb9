use Rattle.std.proofs.Common.{ap, sym, ◌∙◌}
use Rattle.logical_types.specs.Tree.{union, plain, plain_parts}
use Rattle.tydi_base.specs.Width.{index_width}
use Rattle.logical_types.specs.Width.{width_of, total_width, tag_width, saturated}
use Rattle.logical_types.proofs.PlainLemmas.{plain-Group, plain-Union, number_of_parts-plain}
use Rattle.logical_types.proofs.WidthLemmas.{greatest-past, union_saturated}
use Rattle.logical_types.proofs.widths.+width.Goals as goal

pub saturated_width-returns-in-Group : goal.saturated_width-returns-in-Group
saturated_width-returns-in-Group k c = c.total_width.ensures ∙ ap (λ parts. saturated (total_width (plain_parts parts))) c.as_slice.ensures
    ∙ ap (λ ltype. saturated (width_of ltype)) (sym (plain-Group c.in-Group.parts)) ∙ ap (λ ltype. saturated (width_of (plain ltype))) (sym c.in-Group.is)

pub saturated_width-returns-in-Union : goal.saturated_width-returns-in-Union
saturated_width-returns-in-Union k c = c.union_width.ensures ∙ ap (λ parts. saturated (width_of (union (plain_parts parts)))) c.as_slice-in-Union.ensures
    ∙ ap (λ ltype. saturated (width_of ltype)) (sym (plain-Union c.in-Union.parts)) ∙ ap (λ ltype. saturated (width_of (plain ltype))) (sym c.in-Union.is)

pub union_width-returns : goal.union_width-returns
unfolding tag_width
union_width-returns k c = union_saturated c.saturating_add.result c.parts.greatest c.index_width.result _ _ c.saturating_add.ensures
    (greatest-past c.args.parts.now c.parts.part-index c.parts.greatest c.parts-test.false _ c.parts.invariant)
    (c.index_width.ensures.value ∙ ap index_width (sym (number_of_parts-plain c.args.parts.now)))
