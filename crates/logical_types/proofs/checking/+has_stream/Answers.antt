use Rattle.std.proofs.Common.{ap, sym, ◌∙◌}
use Rattle.logical_types.specs.Tree.{plain, plain_parts, has_stream, have_stream}
use Rattle.logical_types.proofs.PlainLemmas.{plain-Group, plain-Union}
use Rattle.logical_types.proofs.checking.+has_stream.Goals as goal

pub has_stream-returns-in-Group : goal.has_stream-returns-in-Group
has_stream-returns-in-Group k c = c.have_stream.ensures ∙ ap (λ parts. have_stream (plain_parts parts)) c.as_slice.ensures
    ∙ ap has_stream (sym (plain-Group c.in-Group.parts)) ∙ ap (λ ltype. has_stream (plain ltype)) (sym c.in-Group.is)

pub has_stream-returns-in-Union : goal.has_stream-returns-in-Union
has_stream-returns-in-Union k c = c.have_stream-in-Union.ensures ∙ ap (λ parts. have_stream (plain_parts parts)) c.as_slice-in-Union.ensures
    ∙ ap has_stream (sym (plain-Union c.in-Union.parts)) ∙ ap (λ ltype. has_stream (plain ltype)) (sym c.in-Union.is)
