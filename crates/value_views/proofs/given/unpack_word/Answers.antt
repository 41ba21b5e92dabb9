use Rattle.std.proofs.Common.{◌∙◌, ap, sym}
use Rattle.logical_types.specs.Tree.{plain}
use Rattle.logical_types.proofs.PlainLemmas.{plain-Bits}
use Rattle.logical_value.proofs.PlainLemmas.{plain-Word}
use Rattle.value_views.specs.Words.{value_of}
use Rattle.value_views.proofs.given.unpack_word.Goals as goal

pub returns-in-Bits : goal.returns-in-Bits
returns-in-Bits c =
    plain-Word c.args.word ∙ sym (ap (λ t. value_of t c.args.word) (ap plain c.in-Bits.is ∙ plain-Bits c.in-Bits.field-0))
