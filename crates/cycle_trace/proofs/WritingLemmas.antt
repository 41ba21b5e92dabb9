-- Texts as they are written, part after part.
use Rattle.std.proofs.Common.{◌≡◌, ℕ, ◌^◌, ◌<◌, Bool, true, ltb, List, ◌∷◌, ◌++◌, Option, Some, None, append_assoc, refl, sym, ◌∙◌, arith}
use Rattle.std.specs.Fmt.{decimal}
use Rattle.std.specs.Option.{is_some}
use Rattle.std.proofs.lemmas.Bool.Decides.{nat_tests}
use Rattle.std.proofs.lemmas.List.Concat.{flat_map-append}
use Rattle.tydi_base.specs.Bits.{bits_of}
use Rattle.tydi_base.specs.Hex.{hex_of}
use Rattle.tydi_base.specs.Numbers.{word_of_number}
use Rattle.signal_layout.specs.declared.layout.Signals.{Signals}
use Rattle.signal_layout.specs.declared.signal.Signal.TheVariants as signals
use Rattle.physical_stream.specs.Params.{Parameters}
use Rattle.physical_stream.specs.Signals.{has_content, has_last, has_stai, has_endi, has_strb, has_user}
use Rattle.physical_stream.specs.declared.transfer.Transfer.{Transfer}
use Rattle.cycle_trace.specs.Spelling.{signal_words, words_of_signals}
use Rattle.cycle_trace.proofs.LayoutLemmas.{there}
use Rattle.cycle_trace.specs.Writing.{AreSignalsOf, spaced}

-- ---- the signals of a transfer

pub signals_together : (a b c d e f : List (List ℕ)) → spaced (a ++ b ++ c ++ d ++ e ++ f) ≡ spaced a ++ (spaced b ++ (spaced c ++ (spaced d ++ (spaced e ++ spaced f))))
signals_together a b c d e f =
    let joined = flat_map-append (λ (word : List ℕ). 32 ∷ word) in
    rw (joined (a ++ b ++ c ++ d ++ e) f, joined (a ++ b ++ c ++ d) e, joined (a ++ b ++ c) d, joined (a ++ b) c, joined a b) (simp append_assoc)

-- the words of the signals that have a width
pub signals_written : (layout : Signals) (p : Parameters) (t : Transfer) (strb : List Bool) → AreSignalsOf layout p
    → spaced (words_of_signals p t strb)
    ≡ spaced (signal_words (is_some layout.content) 100 (hex_of t.content)) ++ (spaced (signal_words (is_some layout.last) 108 (hex_of t.last))
    ++ (spaced (signal_words (is_some layout.stai) 115 (decimal t.stai)) ++ (spaced (signal_words (is_some layout.endi) 101 (decimal t.endi))
    ++ (spaced (signal_words (is_some layout.strb) 98 (hex_of strb)) ++ spaced (signal_words (is_some layout.user) 117 (hex_of t.user))))))
signals_written layout p t strb h =
    rw (
      there p layout h signals.Content,
      there p layout h signals.Last,
      there p layout h signals.Stai,
      there p layout h signals.Endi,
      there p layout h signals.Strb,
      there p layout h signals.User,
    ) (signals_together (signal_words (has_content p) 100 (hex_of t.content)) (signal_words (has_last p) 108 (hex_of t.last)) (signal_words (has_stai p) 115 (decimal t.stai))
    (signal_words (has_endi p) 101 (decimal t.endi)) (signal_words (has_strb p) 98 (hex_of strb)) (signal_words (has_user p) 117 (hex_of t.user)))

-- ---- strobe bits

word_of_number-fits : (width number : ℕ) → number < 2 ^ width → word_of_number width number ≡ Some (bits_of width number)
unfolding word_of_number
word_of_number-fits width number below = let test : ltb number (2 ^ width) ≡ true = grind (arith, nat_tests) in rw test refl

-- the word that was made is the word of the strobe bits
pub strobe_word : (width lanes number : ℕ) (made : Option (List Bool)) (word : List Bool) → number < 2 ^ lanes → width ≡ lanes → made ≡ word_of_number width number → made ≡ Some word → word ≡ bits_of lanes number
strobe_word width lanes number made word below same e is =
    let fits : word_of_number width number ≡ Some (bits_of lanes number) = rw same (word_of_number-fits lanes number below) in
    let one : Some word ≡ Some (bits_of lanes number) = sym is ∙ e ∙ fits in
    cc

-- and one was made
pub no_strobe_word : {P : Type 0} (width lanes number : ℕ) (made : Option (List Bool)) → number < 2 ^ lanes → width ≡ lanes → made ≡ word_of_number width number → made ≡ None → P
no_strobe_word width lanes number made below same e is =
    let fits : word_of_number width number ≡ Some (bits_of lanes number) = rw same (word_of_number-fits lanes number below) in
    let none : None ≡ Some (bits_of lanes number) = sym is ∙ e ∙ fits in
    absurd cc
