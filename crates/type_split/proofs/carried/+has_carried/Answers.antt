use Rattle.std.proofs.Common.{ap, sym, ◌∙◌}
use Rattle.logical_types.specs.Tree.{plain, plain_parts}
use Rattle.type_split.specs.Carried.{has_carried, have_carried}
use Rattle.logical_types.proofs.PlainLemmas.{plain-Group, plain-Union}
use Rattle.type_split.proofs.carried.+has_carried.Goals as goal

pub has_carried-returns-in-Group : goal.has_carried-returns-in-Group
has_carried-returns-in-Group k c = c.have_carried.ensures ∙ ap (λ parts. have_carried (plain_parts parts)) c.as_slice.ensures
    ∙ ap has_carried (sym (plain-Group c.in-Group.parts)) ∙ ap (λ ltype. has_carried (plain ltype)) (sym c.in-Group.is)

pub has_carried-returns-in-Union : goal.has_carried-returns-in-Union
has_carried-returns-in-Union k c = c.have_carried-in-Union.ensures ∙ ap (λ parts. have_carried (plain_parts parts)) c.as_slice-in-Union.ensures
    ∙ ap has_carried (sym (plain-Union c.in-Union.parts)) ∙ ap (λ ltype. has_carried (plain ltype)) (sym c.in-Union.is)
