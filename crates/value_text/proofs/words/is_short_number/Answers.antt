use Rattle.std.proofs.Common.{◌∙◌, sym}
use Rattle.value_text.proofs.WordLemmas.{short-number}
use Rattle.value_text.proofs.words.is_short_number.Goals as goal

pub returns-then-has_few_bytes : goal.returns-then-has_few_bytes
returns-then-has_few_bytes c = λ yes.
    let few = c.has_few_bytes.ensures in
    let is = c.if-has_few_bytes.true in
    short-number c.args.text.now (few.some is) (few.few is) (sym c.are_digits.ensures ∙ yes)
