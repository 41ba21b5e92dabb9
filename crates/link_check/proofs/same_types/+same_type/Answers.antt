use Rattle.std.proofs.Common.{ap, sym, ◌∙◌}
use Rattle.logical_types.specs.Tree.{Parts, plain, plain_parts}
use Rattle.logical_types.proofs.PlainLemmas.{plain-Group, plain-Union}
use Rattle.link_check.specs.SameTypes.{holds_same, have_same_types}
use Rattle.link_check.proofs.same_types.+same_type.Goals as goal

pub holds_same-returns-in-Group : goal.holds_same-returns-in-Group
holds_same-returns-in-Group t c = c.have_same_types.ensures ∙ ap (λ parts. have_same_types (plain_parts parts) (plain_parts c.parts_inside.result.now)) c.as_slice.ensures
    ∙ ap (λ (others : Parts). have_same_types (plain_parts c.in-Group.parts) others) c.parts_inside.ensures
    ∙ ap (λ ltype. holds_same ltype (plain c.args.other.now)) (sym (plain-Group c.in-Group.parts)) ∙ ap (λ ltype. holds_same (plain ltype) (plain c.args.other.now)) (sym c.in-Group.is)

pub holds_same-returns-in-Union : goal.holds_same-returns-in-Union
holds_same-returns-in-Union t c = c.have_same_types-in-Union.ensures ∙ ap (λ parts. have_same_types (plain_parts parts) (plain_parts c.parts_inside-in-Union.result.now)) c.as_slice-in-Union.ensures
    ∙ ap (λ (others : Parts). have_same_types (plain_parts c.in-Union.parts) others) c.parts_inside-in-Union.ensures
    ∙ ap (λ ltype. holds_same ltype (plain c.args.other.now)) (sym (plain-Union c.in-Union.parts)) ∙ ap (λ ltype. holds_same (plain ltype) (plain c.args.other.now)) (sym c.in-Union.is)
