use Rattle.std.proofs.Common.{subst}
use Rattle.logical_types.specs.Tree.{plain}
use Rattle.logical_value.specs.Agreement.{IsFaultOf}
use Rattle.logical_value.specs.Tree as values
use Rattle.logical_value.proofs.LawLemmas.{bad_tags_agree_with_none}
use Rattle.value_views.proofs.WordLemmas.{value_of-is}
use Rattle.value_views.proofs.given.unpack_parts.Goals as goal

pub returns-in-Ok : goal.returns-in-Ok
returns-in-Ok c = value_of-is (plain c.args.element.now) c.args.word.now (values.plain c.in-Ok.value) c.in-Ok.ensures.agrees c.in-Ok.ensures.streams

pub unreachable-requires : goal.unreachable-requires
unreachable-requires c =
    let fault = subst (IsFaultOf (plain c.args.element.now) c.args.word.now) c.in-Err-BadTag.field-0-is c.in-Err-BadTag.ensures in
    bad_tags_agree_with_none (plain c.args.element.now) c.args.word.now _ _ c.requires.stands.0 fault c.requires.stands.1.agrees
