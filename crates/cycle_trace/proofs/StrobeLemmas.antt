-- The strobe bits of a row.
use Rattle.std.proofs.Common.{◌≡◌, ℕ, ◌+◌, ◌/◌, ◌^◌, ◌<◌, ◌≤◌, true, List, Option, Some, None, Ok, Err, refl}
use Rattle.tydi_base.specs.Hex.{word_at}
use Rattle.tydi_base.specs.WordsLeft.{HasNoSized, IsSized}
use Rattle.tydi_base.proofs.DigitNumbers.{number_in, word_at-large, word_at-no_number, word_at-number}
use Rattle.cycle_trace.specs.RowText.{strobe_field, word_field}
use Rattle.cycle_trace.proofs.WordFieldLemmas.{word_field-none, word_field-read, word_field-unread}

module _ (lanes : ℕ) (words : List (List ℕ)) where
  unread : word_field true 98 lanes words ≡ Err tt → strobe_field true lanes words ≡ Err tt
  unfolding strobe_field
  unread is = rw is refl

  pub strobe_field-none : HasNoSized 98 ((lanes + 3) / 4) words → strobe_field true lanes words ≡ Err tt
  strobe_field-none none = unread (word_field-none 98 lanes words none)

  module _ (digits : List ℕ) (rest : List (List ℕ)) (sized : IsSized 98 ((lanes + 3) / 4) words digits rest) where
    no_word : (read : Option ℕ) → number_in digits ≡ read → ((n : ℕ) → number_in digits ≡ Some n → 2 ^ lanes ≤ n) → word_at lanes digits ≡ None
    no_word None number large = word_at-no_number lanes digits sized.long number
    no_word (Some n) number large = word_at-large lanes digits sized.long n number (large n number)

    pub strobe_field-unread : ((n : ℕ) → number_in digits ≡ Some n → 2 ^ lanes ≤ n) → strobe_field true lanes words ≡ Err tt
    strobe_field-unread large = unread (word_field-unread 98 lanes words digits rest sized (no_word (number_in digits) refl large))

    pub strobe_field-read : (n : ℕ) → number_in digits ≡ Some n → n < 2 ^ lanes → strobe_field true lanes words ≡ Ok (n, rest)
    unfolding strobe_field
    strobe_field-read n number fits =
        let word = word_at-number lanes digits sized.long n fits number in
        rw (word_field-read 98 lanes words digits rest sized word.0 word.1, word.2) refl
