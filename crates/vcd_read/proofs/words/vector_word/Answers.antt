use Rattle.std.proofs.Common.{◌≡◌, ◌∙◌, ◌-◌, List, Some, length, map, sym, ap}
use Rattle.std.proofs.lemmas.Result.{IfOk-weaker}
use Rattle.tydi_base.specs.Numbers.{word_of_number}
use Rattle.vcd_read.specs.Letters.{letter_of}
use Rattle.vcd_read.specs.Words.{filled, word_of}
use Rattle.vcd_read.specs.declared.state.State.{State}
use Rattle.vcd_read.proofs.NumberWords.{no-number, number-word}
use Rattle.vcd_read.proofs.WordLemmas.{above, filled-word}
use Rattle.vcd_read.proofs.words.vector_word.Goals as goal

pub returns-in-None : goal.returns-in-None
returns-in-None c found letters_are =
    let letters = c.args.letters.now in
    sym (filled-word c.args.width letters found letters_are ∙ ap (above (c.args.width - length letters)) (no-number _ (sym c.in-None.is ∙ c.number_of.ensures)))

pub returns-in-Some : goal.returns-in-Some
returns-in-Some c =
    let letters = c.args.letters.now in
    IfOk-weaker c.from_number.result (λ made. made ≡ word_of_number c.args.width c.from.result)
    (λ word. (found : List State) → letters ≡ map letter_of found → word ≡ word_of (filled c.args.width found))
    (λ made is found letters_are. is ∙ number-word c.args.width letters c.from.result c.requires (ap (λ n. Some n) c.from.ensures ∙ sym c.in-Some.is ∙ c.number_of.ensures)
    ∙ sym (filled-word c.args.width letters found letters_are)) c.from_number.ensures
