-- How far a line has the form of a row, with one byte more.
use Rattle.std.proofs.Common.{◌≡◌, ℕ, zero, suc, ◌+◌, ◌<◌, ◌≤◌, Bool, true, false, ◌&&◌, ◌||◌, ◌==◌, nat_lt, eqb, if◌then◌else◌, List, [], ◌∷◌, ◌++◌, length, get_or, drop, add-one, refl, sym, ap, subst, ◌∙◌, arith}
use Rattle.std.specs.List.{count_by, list_any, onto_first}
use Rattle.std.proofs.lemmas.Bool.Decides.{nat_tests}
use Rattle.std.proofs.Math.ListN.{drop_of_length-le}
use Rattle.std.proofs.Math.Seq.{drop-cons}
use Rattle.std.proofs.lemmas.Bool.{eqb-true, eq-eqb}
use Rattle.std.proofs.lemmas.List.{append-nil}
use Rattle.std.proofs.lemmas.List.Splits.{length-slice_split, slice_split-cons_no, slice_split-cons_yes}
use Rattle.std.specs.Str.{bytes_eq}
use Rattle.tydi_base.specs.Pieces.{words_of}
use Rattle.cycle_trace.specs.RowForm.{Goes, IsForm, fits, is_spelled, row_keys}
use Rattle.cycle_trace.specs.RowText.{are_signals, has_form, is_dash, is_payload, is_value, row_fault}
use Rattle.cycle_trace.specs.declared.fault.TraceFault.TheVariants.{BadRow, WrongSignals}
use Rattle.cycle_trace.specs.declared.row.form.RowForm.{RowForm}
use Rattle.cycle_trace.specs.declared.row.form.RowForm.TheVariants as forms
use Rattle.cycle_trace.specs.declared.row.form.ValueKind.{ValueKind}

-- ---- a byte more

apart_is : (a b : ℕ) → eqb a b ≡ false → a ≡ b → ⊥
apart_is a b is same = let yes_so = eq-eqb a b same in cc

-- ---- the keys of the signals

none_empty : (keys : List ℕ) (words : List (List ℕ)) → false ≡ are_signals keys ([] ∷ words)
none_empty [] words = refl
none_empty (key ∷ keys) words = none_empty keys words

skip : (key : ℕ) (keys : List ℕ) (byte : ℕ) (word : List ℕ) (words : List (List ℕ)) → eqb byte key ≡ false → are_signals (key ∷ keys) ((byte ∷ word) ∷ words) ≡ are_signals keys ((byte ∷ word) ∷ words)
skip key keys byte [] words other = refl
skip key keys byte (sign ∷ value) words other =
    ap (λ (b : Bool). if ((b && (sign == 61)) && is_value key value) then are_signals keys words else are_signals keys ((byte ∷ sign ∷ value) ∷ words)) other

or_parts : (a b : Bool) → (a || b) ≡ false → (a ≡ false) × (b ≡ false)
or_parts true b is = absurd cc
or_parts false b is = (refl, is)

no_key : (keys : List ℕ) (byte : ℕ) (word : List ℕ) (words : List (List ℕ)) → list_any (eqb byte) keys ≡ false → are_signals keys ((byte ∷ word) ∷ words) ≡ false
no_key [] byte word words none = refl
no_key (key ∷ keys) byte word words none =
    let parts = or_parts (eqb byte key) (list_any (eqb byte) keys) none in
    skip key keys byte word words parts.0 ∙ no_key keys byte word words parts.1

-- a word that begins with the first key
at_key : (byte : ℕ) (keys word : List ℕ) (words : List (List ℕ)) (next : ℕ) (kind : ValueKind) → list_any (eqb byte) keys ≡ false → drop next row_keys ≡ keys → ((digits : List ℕ) → is_value byte digits ≡ is_spelled kind digits)
    → fits (forms.Sign next kind) (word ∷ words) ≡ are_signals (byte ∷ keys) ((byte ∷ word) ∷ words)
at_key byte keys [] words next kind none is spelled = sym (no_key keys byte [] words none)
at_key byte keys (sign ∷ value) words next kind none is spelled =
    ap (λ (later : List ℕ). if ((sign == 61) && is_spelled kind value) then are_signals later words else false) is
    ∙ ap (λ (b : Bool). if ((sign == 61) && b) then are_signals keys words else false) (sym (spelled value))
    ∙ ap (λ (b : Bool). if ((sign == 61) && is_value byte value) then are_signals keys words else b) (sym (no_key keys byte (sign ∷ value) words none))
    ∙ ap (λ (b : Bool). if ((b && (sign == 61)) && is_value byte value) then are_signals keys words else are_signals keys ((byte ∷ sign ∷ value) ∷ words)) (sym (eq-eqb byte byte refl))

-- no key comes twice, and none is a space
key_facts : (i : ℕ) → i < 6 → (list_any (eqb (get_or row_keys i 0)) (drop (suc i) row_keys) ≡ false) × (eqb (get_or row_keys i 0) 32 ≡ false)
key_facts zero lt = (refl, refl)
key_facts (suc zero) lt = (refl, refl)
key_facts (suc (suc zero)) lt = (refl, refl)
key_facts (suc (suc (suc zero))) lt = (refl, refl)
key_facts (suc (suc (suc (suc zero)))) lt = (refl, refl)
key_facts (suc (suc (suc (suc (suc zero))))) lt = (refl, refl)
key_facts (suc (suc (suc (suc (suc (suc i)))))) lt = absurd (omega arith)

ne_test : (a b : ℕ) → (b ≡ a → ⊥) → eqb a b ≡ false
ne_test a b ne = by_test (eqb a b) refl
  where
    by_test : (test : Bool) → eqb a b ≡ test → eqb a b ≡ false
    by_test true is = absurd (ne (sym (eqb-true a b is)))
    by_test false is = is

-- the keys from this number on do as well as all that may come
abbrev pub SameFrom : (first at byte : ℕ) → Type 0
SameFrom first at byte = (word : List ℕ) (words : List (List ℕ)) → are_signals (drop at row_keys) ((byte ∷ word) ∷ words) ≡ are_signals (drop first row_keys) ((byte ∷ word) ∷ words)

module _ (first at byte : ℕ) (same : SameFrom first at byte) where
  pub SameFrom-next : at < 6 → (get_or row_keys at 0 ≡ byte → ⊥) → SameFrom first (at + 1) byte
  SameFrom-next lt other word words =
      sym (ap (λ (keys : List ℕ). are_signals keys ((byte ∷ word) ∷ words)) (drop-cons row_keys at 0 lt)
      ∙ skip (get_or row_keys at 0) (drop (suc at) row_keys) byte word words (ne_test byte (get_or row_keys at 0) other)
      ∙ ap (λ (n : ℕ). are_signals (drop n row_keys) ((byte ∷ word) ∷ words)) (sym (add-one at)))
      ∙ same word words

  pub goes-Signal_found : (kind : ValueKind) → at < 6 → get_or row_keys at 0 ≡ byte → ((digits : List ℕ) → is_value byte digits ≡ is_spelled kind digits) → Goes (forms.Signal first) byte (forms.Sign (at + 1) kind)
  goes-Signal_found kind lt is spelled =
      let facts = key_facts at lt in
      let apart : list_any (eqb byte) (drop (suc at) row_keys) ≡ false = subst (λ (b : ℕ). list_any (eqb b) (drop (suc at) row_keys) ≡ false) is facts.0 in
      let no_space : eqb byte 32 ≡ false = subst (λ (b : ℕ). eqb b 32 ≡ false) is facts.1 in
      record {
        space = λ space word words. absurd (apart_is byte 32 no_space space);
        other = λ ne word words.
            at_key byte (drop (suc at) row_keys) word words (at + 1) kind apart (ap (λ (n : ℕ). drop n row_keys) (add-one at)) spelled
            ∙ ap (λ (key : ℕ). are_signals (key ∷ drop (suc at) row_keys) ((byte ∷ word) ∷ words)) (sym is)
            ∙ ap (λ (keys : List ℕ). are_signals keys ((byte ∷ word) ∷ words)) (sym (drop-cons row_keys at 0 lt)) ∙ same word words;
      }

  pub goes-Signal_none : 6 ≤ at → Goes (forms.Signal first) byte forms.No
  goes-Signal_none past = record {
    space = λ space word words. none_empty (drop first row_keys) (word ∷ words);
    other = λ ne word words. ap (λ (keys : List ℕ). are_signals keys ((byte ∷ word) ∷ words)) (sym (drop_of_length-le row_keys past)) ∙ same word words;
  }

-- ---- the payload

-- words that are no dash are signals
payload_signals : (word : List ℕ) (words : List (List ℕ)) → is_dash (word ∷ words) ≡ false → is_payload (word ∷ words) ≡ are_signals row_keys (word ∷ words)
payload_signals word words none =
    let some : nat_lt 0 (length (word ∷ words)) ≡ true = grind (arith, nat_tests) in
    ap (λ (b : Bool). b || (nat_lt 0 (length (word ∷ words)) && are_signals row_keys (word ∷ words))) none ∙ ap (λ (b : Bool). b && are_signals row_keys (word ∷ words)) some

dash_alone : (word : List ℕ) (words : List (List ℕ)) → fits forms.Dash (word ∷ words) ≡ is_payload ((45 ∷ word) ∷ words)
dash_alone [] [] = refl
dash_alone (x ∷ word) [] = sym (no_key row_keys 45 (x ∷ word) [] refl)
dash_alone word (next ∷ words) = sym (payload_signals (45 ∷ word) (next ∷ words) refl ∙ no_key row_keys 45 word (next ∷ words) refl)

pub goes-Payload_dash : Goes forms.Payload 45 forms.Dash
goes-Payload_dash = record { space = λ same word words. absurd cc; other = λ ne word words. dash_alone word words }

no_dash : (byte : ℕ) (word : List ℕ) (words : List (List ℕ)) → eqb byte 45 ≡ false → are_signals row_keys ((byte ∷ word) ∷ words) ≡ is_payload ((byte ∷ word) ∷ words)
no_dash byte word [] other = ap (λ (b : Bool). (b && bytes_eq word []) || are_signals row_keys ((byte ∷ word) ∷ [])) (sym other)
no_dash byte word (next ∷ words) other = sym (payload_signals (byte ∷ word) (next ∷ words) refl)

pub goes-Payload : (byte : ℕ) (new : RowForm) → (byte ≡ 45 → ⊥) → Goes (forms.Signal 0) byte new → Goes forms.Payload byte new
goes-Payload byte new other h = record {
  space = λ same word words. h.space same word words ∙ sym (payload_signals [] (word ∷ words) refl);
  other = λ ne word words. h.other ne word words ∙ no_dash byte word words (ne_test byte 45 (λ same. other (sym same)));
}

-- ---- bytes one after another

goes_words : (old new : RowForm) (byte : ℕ) (more : List ℕ) → Goes old byte new → fits new (words_of more) ≡ fits old (words_of (byte ∷ more))
goes_words old new byte more h = by_words (words_of more) refl (length-slice_split (λ b. b == 32) more)
  where
    by_byte : (word : List ℕ) (words : List (List ℕ)) → words_of more ≡ word ∷ words → (test : Bool) → eqb byte 32 ≡ test → fits new (word ∷ words) ≡ fits old (words_of (byte ∷ more))
    by_byte word words is true space =
        h.space (eqb-true byte 32 space) word words ∙ sym (ap (fits old) (slice_split-cons_yes (λ b. b == 32) byte more space ∙ ap (λ (rest : List (List ℕ)). [] ∷ rest) is))
    by_byte word words is false other =
        h.other (apart_is byte 32 other) word words ∙ sym (ap (fits old) (slice_split-cons_no (λ b. b == 32) byte more other ∙ ap (onto_first byte) is))

    by_words : (words : List (List ℕ)) → words_of more ≡ words → length (words_of more) ≡ count_by (λ b. b == 32) more + 1 → fits new (words_of more) ≡ fits old (words_of (byte ∷ more))
    by_words [] is long = absurd (omega (arith, ap length is))
    by_words (word ∷ words) is long = ap (fits new) is ∙ by_byte word words is (eqb byte 32) refl

-- the form so far and the bytes to come
abbrev pub ComesTo : (old new : RowForm) (bytes rest : List ℕ) → Type 0
ComesTo old new bytes rest = (more : List ℕ) → fits new (words_of (rest ++ more)) ≡ fits old (words_of (bytes ++ more))

pub ComesTo-next : (old form new : RowForm) (bytes : List ℕ) (i byte : ℕ) → ComesTo old form bytes (drop i bytes) → i < length bytes → byte ≡ get_or bytes i 0 → Goes form byte new → ComesTo old new bytes (drop (i + 1) bytes)
ComesTo-next old form new bytes i byte so lt is h more =
    let parts : drop i bytes ≡ byte ∷ drop (i + 1) bytes = drop-cons bytes i 0 lt ∙ ap (λ (b : ℕ). b ∷ drop (suc i) bytes) (sym is) ∙ ap (λ (n : ℕ). byte ∷ drop n bytes) (sym (add-one i)) in
    goes_words form new byte (drop (i + 1) bytes ++ more) h ∙ ap (λ (rest : List ℕ). fits form (words_of (rest ++ more))) (sym parts) ∙ so more

pub ComesTo-all : (old form : RowForm) (bytes : List ℕ) (i : ℕ) → ComesTo old form bytes (drop i bytes) → length bytes ≤ i → (more : List ℕ) → fits form (words_of more) ≡ fits old (words_of (bytes ++ more))
ComesTo-all old form bytes i so past more = ap (λ (rest : List ℕ). fits form (words_of (rest ++ more))) (sym (drop_of_length-le bytes past)) ∙ so more

-- ---- a line that ends, and one that goes on

-- no word that is empty is a signal
pub whole-Signal : (next : ℕ) → false ≡ fits (forms.Signal next) ([] ∷ [])
whole-Signal next = none_empty (drop next row_keys) []

pub fault_of : (form : RowForm) (line : List ℕ) (number : ℕ) (whole : Bool) → IsForm form line → whole ≡ fits form ([] ∷ []) → (if whole then WrongSignals number else BadRow number) ≡ row_fault number line
fault_of form line number whole is same =
    ap (λ (b : Bool). if b then WrongSignals number else BadRow number) (same ∙ is [] ∙ ap (λ (text : List ℕ). has_form (words_of text)) (append-nil line))
