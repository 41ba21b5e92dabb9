-- The meaning that a table of words gives to a word.
use Rattle.std.proofs.Common.{◌≡◌, ℕ, Bool, true, false, cond, List, [], ◌∷◌, Option, Some, None, sym, ap, ◌∙◌, bytes_eq, refl}
use Rattle.std.proofs.lemmas.Option.{none-some, same_Some}
use Rattle.std.proofs.lemmas.Slice.Eq.{bytes_eq-Decides}
use Rattle.tydi_reading.specs.Tables.{entry_of, IsNoEntry}

module _ {K : Type 0} (own : K → List ℕ) where
  -- a word with a meaning is the meaning's own
  pub entry-word : (all : List K) (word : List ℕ) (x : K) → entry_of own all word ≡ Some x → word ≡ own x
  entry-word [] word x is = absurd (none-some x is)
  entry-word (k ∷ more) word x is = by_test (bytes_eq word (own k)) refl (entry-word more word x) is
    where
      by_test : (b : Bool) → bytes_eq word (own k) ≡ b → (entry_of own more word ≡ Some x → word ≡ own x) → cond b (Some k) (entry_of own more word) ≡ Some x → word ≡ own x
      by_test true same later is = (bytes_eq-Decides word (own k)).0 same ∙ ap own (same_Some k x is)
      by_test false same later is = later is

  no_entry : (b : Bool) (k : K) (o : Option K) → cond b (Some k) o ≡ None → (b ≡ false) × (o ≡ None)
  no_entry true k o is = absurd (none-some k (sym is))
  no_entry false k o is = (refl, is)

  pub entry-none : (all : List K) (word : List ℕ) → entry_of own all word ≡ None → IsNoEntry own all word
  entry-none [] word is = tt
  entry-none (k ∷ more) word is = let parts = no_entry (bytes_eq word (own k)) k (entry_of own more word) is in (parts.0, entry-none more word parts.1)
