use Rattle.std.proofs.Common.{◌≡◌, ◌∙◌, ◌-◌, List, length, map, sym, ap}
use Rattle.std.proofs.lemmas.Result.{IfOk-weaker}
use Rattle.vcd_read.specs.Letters.{letter_of}
use Rattle.vcd_read.specs.Words.{filled, word_of}
use Rattle.vcd_read.specs.declared.state.State.{State}
use Rattle.vcd_read.proofs.WordLemmas.{above, filled-word}
use Rattle.vcd_read.proofs.words.wide_word.Goals as goal

pub returns : goal.returns
returns c =
    let letters = c.args.letters.now in
    IfOk-weaker c.widened.result (λ wide. wide ≡ above (c.args.width - length letters) c.in_ok-word.word)
    (λ word. (found : List State) → letters ≡ map letter_of found → word ≡ word_of (filled c.args.width found))
    (λ wide is found letters_are. is ∙ ap (above (c.args.width - length letters)) c.in_ok-word.ensures
    ∙ sym (filled-word c.args.width letters found letters_are)) c.widened.ensures
