use Rattle.std.proofs.Common.{◌≡◌, ◌∙◌, ◌∷◌, [], IfOk, ap, sym, subst}
use Rattle.vcd_read.specs.Words.{word_of}
use Rattle.vcd_read.proofs.NumberWords.{high-word, low-word}
use Rattle.vcd_read.proofs.WordLemmas.{floating-word, unknown-word}
use Rattle.vcd_read.proofs.words.bit_word.Goals as goal

pub returns-in-Low : goal.returns-in-Low
returns-in-Low c = subst (λ wanted. IfOk c.from_number.result (λ word. word ≡ wanted)) (low-word ∙ sym (ap (λ state. word_of (state ∷ [])) c.in-Low.is)) c.from_number.ensures

pub returns-in-High : goal.returns-in-High
returns-in-High c = subst (λ wanted. IfOk c.from_number-in-High.result (λ word. word ≡ wanted)) (high-word ∙ sym (ap (λ state. word_of (state ∷ [])) c.in-High.is)) c.from_number-in-High.ensures

pub returns-in-Unknown : goal.returns-in-Unknown
returns-in-Unknown c = sym (ap (λ state. word_of (state ∷ [])) c.in-Unknown.is ∙ unknown-word 0 [])

pub returns-in-Floating : goal.returns-in-Floating
returns-in-Floating c = sym (ap (λ state. word_of (state ∷ [])) c.in-Floating.is ∙ floating-word 0 [])
