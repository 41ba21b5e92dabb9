use Rattle.std.proofs.Common.{ap, sym, ◌∙◌}
use Rattle.logical_types.specs.Tree.{plain_parts, names_of}
use Rattle.logical_types.proofs.PlainLemmas.{plain_parts-past}
use Rattle.til_resolve.specs.Paths.{is_same_path}
use Rattle.link_check.proofs.ShapeLemmas.{no_names-left}
use Rattle.link_check.proofs.kinds.have_same_names.Goals as goal

pub returns : goal.returns
returns c = no_names-left c.parts.rest.now c.is_empty.result c.is_empty.ensures
    ∙ ap (λ parts. is_same_path (names_of parts) (names_of (plain_parts c.parts.rest.now))) (sym (plain_parts-past c.args.parts.now c.parts.part-index c.parts-test.false))
    ∙ c.parts.invariant
