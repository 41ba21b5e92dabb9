use Rattle.std.proofs.Common.{◌∙◌, ◌∷◌, ap}
use Rattle.tydi_base.specs.Pieces.{words_of}
use Rattle.vhdl_meaning.proofs.OrderingLemmas.{three-words}
use Rattle.vhdl_meaning.proofs.draft.two_words.Goals as goal

-- src/draft.rt:33:1
pub returns-in-Some : goal.returns-in-Some
returns-in-Some c =
    three-words c.in_ok-first.first.now c.in-Some.field-0.0.now c.in-Some.field-0.1.now (words_of c.args.text.now)
    (c.in_ok-first.ensures.some ∙ ap (λ l. c.in_ok-first.first.now ∷ l) c.in-Some.ensures.some)
