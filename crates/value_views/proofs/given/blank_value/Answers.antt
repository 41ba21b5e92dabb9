use Rattle.std.proofs.Common.{ap, length}
use Rattle.logical_types.specs.Tree.{plain}
use Rattle.value_views.proofs.GivingLemmas.{blank-value, blank-word, ok-value}
use Rattle.value_views.proofs.given.blank_value.Goals as goal

pub unpack_word-requires-clause-stands : goal.unpack_word-requires-clause-stands
unpack_word-requires-clause-stands c = blank-word (plain c.args.element.now) c.in_ok-word.word c.requires.plain c.requires.narrow (ap length c.in_ok-word.ensures)

pub returns : goal.returns
returns c =
    ok-value c.unpack_word.result _ _ (blank-value (plain c.args.element.now) c.in_ok-word.word c.requires.plain c.requires.narrow (ap length c.in_ok-word.ensures)) c.unpack_word.ensures
