-- Words of bits in a row, read by their size.
use Rattle.std.proofs.Common.{◌≡◌, ℕ, ◌+◌, ◌/◌, Bool, true, false, eqb, List, ◌∷◌, length, Some, None, Result, Ok, Err, refl}
use Rattle.std.proofs.lemmas.Bool.{eqb-true, eq-eqb}
use Rattle.tydi_base.specs.Hex.{word_at}
use Rattle.tydi_base.specs.Pieces.{Lacks}
use Rattle.tydi_base.proofs.HexBytes.{word_at-length}
use Rattle.tydi_base.proofs.HexLemmas.{hex_of-word_at}
use Rattle.cycle_trace.specs.RowText.{value_of, word_field}
use Rattle.tydi_base.specs.WordsLeft.{HasNoSized, IsSized}
use Rattle.tydi_base.proofs.PlainWords.{hex_of-plain, plain-lacks}
use Rattle.cycle_trace.proofs.SignalSpelling.{value_of-some, value_of-spelled}

-- digits of a word have no space in them
pub word_at-lacks : (width : ℕ) (digits : List ℕ) (bits : List Bool) → word_at width digits ≡ Some bits → Lacks 32 digits
word_at-lacks width digits bits is = rw (hex_of-word_at width digits bits is).0 (plain-lacks _ (hex_of-plain bits))

module _ (key width : ℕ) (words : List (List ℕ)) where
  -- a field of which no value spells a word
  unread : ((other : List ℕ) (others : List (List ℕ)) → words ≡ (key ∷ 61 ∷ other) ∷ others → word_at width other ≡ None)
      → (read : Result (List ℕ × List (List ℕ)) (Unit {0})) → value_of key words ≡ read → word_field true key width words ≡ Err tt
  unfolding word_field
  unread none (Err e) is = rw is refl
  unread none (Ok x) is = rw (is, none x.0 x.1 (value_of-some key words x is)) refl

  pub word_field-none : HasNoSized key ((width + 3) / 4) words → word_field true key width words ≡ Err tt
  word_field-none none = unread (λ other others is. word_at-length width other (none other others is)) (value_of key words) refl

  module _ (digits : List ℕ) (rest : List (List ℕ)) (sized : IsSized key ((width + 3) / 4) words digits rest) where
    pub word_field-read : (bits : List Bool) → word_at width digits ≡ Some bits → word_field true key width words ≡ Ok (bits, rest)
    unfolding word_field
    word_field-read bits is = rw (sized.spelled (word_at-lacks width digits bits is), value_of-spelled key digits rest, is) refl

    other_none : word_at width digits ≡ None → (other : List ℕ) (others : List (List ℕ)) → words ≡ (key ∷ 61 ∷ other) ∷ others
        → (same : Bool) → eqb (length other) ((width + 3) / 4) ≡ same → word_at width other ≡ None
    other_none none other others is true same = rw (sized.only other others is (eqb-true _ _ same)) none
    other_none none other others is false same = word_at-length width other (λ long. let yes : eqb (length other) ((width + 3) / 4) ≡ true = eq-eqb _ _ long in cc)

    pub word_field-unread : word_at width digits ≡ None → word_field true key width words ≡ Err tt
    word_field-unread none = unread (λ other others is. other_none none other others is (eqb (length other) ((width + 3) / 4)) refl) (value_of key words) refl
