use Rattle.std.proofs.Common.{◌∙◌, List, ap, sym}
use Rattle.logical_types.specs.declared.ltype.Part.{Part}
use Rattle.logical_types.specs.Tree.{plain, plain_parts}
use Rattle.logical_types.proofs.PlainLemmas.{plain-Group, plain-Union}
use Rattle.trace_decode.specs.Tagged.{has_tags, have_tags}
use Rattle.trace_decode.proofs.UntaggedLemmas.{tagged-at, tagged-next, tagged-past}
use Rattle.trace_decode.proofs.tags.+tags.Goals as goal

pub has_tags-returns-in-Group : goal.has_tags-returns-in-Group
has_tags-returns-in-Group t c =
    c.have_tags.ensures ∙ ap (λ (l : List Part). have_tags (plain_parts l)) c.as_slice.ensures ∙ sym (ap has_tags (plain-Group c.in-Group.parts)) ∙ sym (ap (λ ltype. has_tags (plain ltype)) c.in-Group.is)

pub has_tags-returns-in-Union : goal.has_tags-returns-in-Union
has_tags-returns-in-Union t c = sym (ap has_tags (plain-Union c.in-Union.field-0)) ∙ sym (ap (λ ltype. has_tags (plain ltype)) c.in-Union.is)

pub have_tags-returns-then-has_tags : goal.have_tags-returns-then-has_tags
have_tags-returns-then-has_tags t c =
    sym (tagged-at c.args.parts.now c.parts.part-index c.part-item.result c.parts-test.true c.part-item.is (sym c.has_tags.ensures ∙ c.if-has_tags.true)) ∙ c.parts.invariant

pub have_tags-parts-preserved : goal.have_tags-parts-preserved
have_tags-parts-preserved t c =
    tagged-next c.args.parts.now c.parts.part-index c.part-item.result c.parts-test.true c.part-item.is (sym c.has_tags.ensures ∙ c.if-has_tags.false) ∙ c.parts.invariant

pub have_tags-returns : goal.have_tags-returns
have_tags-returns t c = sym (tagged-past c.args.parts.now c.parts.part-index c.parts-test.false) ∙ c.parts.invariant
