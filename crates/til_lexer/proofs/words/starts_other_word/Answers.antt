use Rattle.std.proofs.Common.{◌∙◌, ap, slice_get}
use Rattle.std.specs.Str.{chars}
use Rattle.til_lexer.proofs.WordLemmas.{starts-none}
use Rattle.til_lexer.proofs.words.starts_other_word.Goals as goal

pub returns-in-None : goal.returns-in-None
returns-in-None c = starts-none (chars c.args.text.now) (c.in-None.ensures.steps.2 ∙ ap (λ bytes. slice_get (chars bytes) 0) c.chars.ensures.rest)
