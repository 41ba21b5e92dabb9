use Rattle.std.proofs.Common.{ap, sym, ◌∙◌}
use Rattle.logical_types.specs.Tree.{plain, plain_parts}
use Rattle.logical_types.proofs.PlainLemmas.{plain-Group, plain-Union}
use Rattle.link_check.specs.Kinds.{parts_inside}
use Rattle.link_check.proofs.kinds.parts_inside.Goals as goal

pub returns-in-Group : goal.returns-in-Group
returns-in-Group c = ap plain_parts c.as_slice.ensures ∙ ap parts_inside (sym (plain-Group c.in-Group.parts)) ∙ ap (λ ltype. parts_inside (plain ltype)) (sym c.in-Group.is)

pub returns-in-Union : goal.returns-in-Union
returns-in-Union c = ap plain_parts c.as_slice-in-Union.ensures ∙ ap parts_inside (sym (plain-Union c.in-Union.parts)) ∙ ap (λ ltype. parts_inside (plain ltype)) (sym c.in-Union.is)
