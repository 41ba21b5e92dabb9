use Rattle.std.proofs.Common.{◌∙◌, sym}
use Rattle.logical_types.specs.Tree.{plain}
use Rattle.trace_decode.proofs.UntaggedLemmas.{names_untagged}
use Rattle.trace_decode.proofs.tags.word_has_names.Goals as goal

pub returns-else-tagged : goal.returns-else-tagged
returns-else-tagged c = sym (names_untagged (plain c.args.element.now) c.args.word.now (sym c.requires.tagged ∙ c.if-tagged.false))
