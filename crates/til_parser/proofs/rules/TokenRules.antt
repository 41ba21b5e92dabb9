-- The rules of one token: of a kind, a word, or a token of a kind with a meaning.
use Rattle.til_parser.proofs.rules.Common.{◌≡◌, ℕ, Bool, true, false, cond, ◌||◌, List, [], ◌∷◌, ◌++◌, All, Option, Some, None, option_and_then, refl, ap, ◌∙◌, subst}
use Rattle.til_parser.proofs.rules.Common.{none-some, bytes_eq-Decides, All-head, Place, Never, Anything, meant, leaf, tells, IsRule, entry_of, entry-word, word_at}
use Rattle.til_parser.proofs.rules.Common.{begins-apart, Mark, leaf-rule, read-rule, TokenKind, start, HasForm, has_name_form, Form, One, Of, IsWord, Word, Lexeme}
use Rattle.til_parser.proofs.rules.Common.{IsFormed, same_kind, is_kind, is_word, token, ⊎_elim, front-tells, ◌⋯◌}
use denote.Enum.Bare.{same_true, true_same}
use Rattle.std.specs.Bool.{Decides}
use Rattle.std.proofs.lemmas.Bool.{or_cases, Decides.Decides-and, Decides.Decides-like}
pub use Rattle.std.proofs.lemmas.Bool.{and_parts as both}
use Rattle.til_lexer.specs.contracts.token.TokenKind.{the_type}
use Rattle.til_lexer.specs.declared.token.TokenKind.TheVariants as kinds
use Rattle.til_parser.specs.declared.refusal.TooDeep.{TooDeep}

-- ---- kinds and words

pub kind_is : (one other : TokenKind) → same_kind one other ≡ true → one ≡ other
unfolding same_kind
kind_is one other same = same_true the_type tt one other same

pub same_kind-is : (one other : TokenKind) → one ≡ other → same_kind one other ≡ true
unfolding same_kind
same_kind-is one other is = true_same the_type one other is

pub is_word-Decides : (word : List ℕ) (t : Lexeme) → Decides (is_word word t) (IsWord word t)
is_word-Decides word t = Decides-like (is_word word t) (λ parts. record { kind = parts.0; text = parts.1 }) (λ is. (is.kind, is.text))
    (Decides-and _ _ (kind_is t.kind kinds.Word, same_kind-is t.kind kinds.Word) (bytes_eq-Decides t.spelling word))

pub one : (Is : Lexeme → Type 0) (lexeme : Lexeme) → Is lexeme → One Is (lexeme ∷ [])
one Is lexeme is = record { lexeme = lexeme; all = refl; is = is }

-- a token of this kind and text, at the first place
abbrev pub made : TokenKind → List ℕ → Lexeme
made kind spelling = record { kind = kind; spelling = spelling; place = start }

-- a mark: a test for a token, which this one passes
abbrev token_mark : (test : Lexeme → Bool) (Is : Lexeme → Type 0) → ((t : Lexeme) → Decides (test t) (Is t)) → (thing : Lexeme) → IsFormed thing → Is thing → Mark IsFormed
token_mark test Is decides thing good is = record {
  test = test;
  Spelled = One Is;
  is = record {
    thing = thing;
    good = good;
    holds = (decides thing).1 is;
    there = λ t holds. one Is t ((decides t).0 holds);
    back = λ ts s. (s.lexeme, s.all, (decides s.lexeme).1 s.is);
  };
}

-- a token of this kind, and this word
abbrev pub kind_mark : (kind : TokenKind) (spelling : List ℕ) → HasForm kind spelling → Mark IsFormed
kind_mark kind spelling form = token_mark (is_kind kind) (λ t. t.kind ≡ kind) (λ t. (kind_is t.kind kind, same_kind-is t.kind kind)) (made kind spelling) form refl

abbrev pub word_mark : (word : List ℕ) → has_name_form word ≡ true → Mark IsFormed
word_mark word form = token_mark (is_word word) (IsWord word) (is_word-Decides word) (made kinds.Word word) form (record { kind = refl; text = refl })

abbrev pub comma : Mark IsFormed
comma = kind_mark kinds.Comma _ refl

abbrev pub colon : Mark IsFormed
colon = kind_mark kinds.Colon _ refl

abbrev pub equals : Mark IsFormed
equals = kind_mark kinds.Equals _ refl

abbrev pub semicolon : Mark IsFormed
semicolon = kind_mark kinds.Semicolon _ refl

abbrev pub open_paren : Mark IsFormed
open_paren = kind_mark kinds.OpenParen _ refl

abbrev pub close_paren : Mark IsFormed
close_paren = kind_mark kinds.CloseParen _ refl

-- ---- tests that a token does not pass

-- no token of this kind stands next
abbrev pub NoneNext : TokenKind → Form
NoneNext kind rest = tells (is_kind kind) false rest ≡ false

-- after such a token a test for another kind or word answers no
pub Of-not : (kind other : TokenKind) → same_kind kind other ≡ false → (front rest : List Lexeme) → Of kind front → NoneNext other (front ++ rest)
Of-not kind other apart front rest s = rw (s.all, s.is) apart

pub front-not : (kind other : TokenKind) → same_kind kind other ≡ false → {Second : Form} (front rest : List Lexeme) → (Of kind ⋯ Second) front → NoneNext other (front ++ rest)
front-not kind other apart {Second} front rest = front-tells (is_kind other) false (Of kind) Second front rest (Of-not kind other apart)

-- a token of one kind is of no other
pub kind-apart : (kind other : TokenKind) → same_kind kind other ≡ false → (t : Lexeme) → is_kind kind t ≡ true → is_kind other t ≡ false
kind-apart kind other apart t is = rw (kind_is t.kind kind is) apart

pub kind-not : (kind other : TokenKind) → same_kind kind other ≡ false → (rest : List Lexeme) → tells (is_kind kind) false rest ≡ true → NoneNext other rest
kind-not kind other apart = begins-apart (is_kind kind) (is_kind other) false (kind-apart kind other apart)

-- a token that begins an item is a word or documentation
abbrev pub begins_item : Lexeme → Bool
begins_item t = is_kind kinds.Word t || is_kind kinds.Doc t

pub item-apart : (kind : TokenKind) → same_kind kinds.Word kind ≡ false → same_kind kinds.Doc kind ≡ false → (t : Lexeme) → begins_item t ≡ true → is_kind kind t ≡ false
item-apart kind word doc t is = ⊎_elim (kind-apart kinds.Word kind word t) (kind-apart kinds.Doc kind doc t) (or_cases (is_kind kinds.Word t) (is_kind kinds.Doc t) is)

-- ---- a token with a meaning

-- a token of this kind whose text has a meaning is such a one
pub record IsToken {A : Type 0} (kind : TokenKind) (meaning : Place → List ℕ → Option A) (Is : A → Lexeme → Type 0) : Type 0 where
  pub there : (x : A) (t : Lexeme) → t.kind ≡ kind → meaning t.place t.spelling ≡ Some x → Is x t
  pub back : (x : A) (t : Lexeme) → IsFormed t → Is x t → (t.kind ≡ kind) × (meaning t.place t.spelling ≡ Some x)

pub meant_is : {A : Type 0} (b : Bool) (o : Option A) (x : A) → cond b o None ≡ Some x → (b ≡ true) × (o ≡ Some x)
meant_is true o x is = (refl, is)
meant_is false o x is = absurd (none-some x is)

-- a token is read by the meaning of its text where it is of this kind
module _ {A : Type 0} (kind : TokenKind) (meaning : Place → List ℕ → Option A) (Is : A → Lexeme → Type 0) where
  abbrev meaning_of : Lexeme → Option A
  meaning_of t = cond (same_kind t.kind kind) (meaning t.place t.spelling) None

  same_read : (ts : List Lexeme) → leaf meaning_of ts ≡ token kind meaning ts
  unfolding token
  same_read [] = refl
  same_read (t ∷ ts) = elim (same_kind t.kind kind) as (λ b. meant {E = TooDeep} (cond b (meaning t.place t.spelling) None) ts (t ∷ ts)
      ≡ meant (option_and_then (λ (next : Place × List ℕ). meaning next.0 next.1) (cond b (Some (t.place, t.spelling)) None)) ts (t ∷ ts)) [ true ↦ refl | false ↦ refl ]

  as_token : IsRule TooDeep IsFormed (leaf meaning_of) (λ x. One (Is x)) (λ _. Anything) (λ _. Unit {0}) Never
      → IsRule TooDeep IsFormed (token kind meaning) (λ x. One (Is x)) (λ _. Anything) (λ _. Unit {0}) Never
  as_token = read-rule _ _ _ _ _ _ _ same_read

  pub token-rule : IsToken kind meaning Is → (thing : Lexeme) (x : A) → IsFormed thing → thing.kind ≡ kind → meaning thing.place thing.spelling ≡ Some x
      → IsRule TooDeep IsFormed (token kind meaning) (λ x. One (Is x)) (λ _. Anything) (λ _. Unit {0}) Never
  token-rule is_token thing x formed is means =
      as_token (leaf-rule _ _ _ thing x formed (rw (same_kind-is thing.kind kind is) means) (record {
        there = λ y t made. let parts = meant_is (same_kind t.kind kind) (meaning t.place t.spelling) y made in
            one (Is y) t (is_token.there y t (kind_is t.kind kind parts.0) parts.1);
        back = λ y ts each s.
            let parts = is_token.back y s.lexeme (All-head IsFormed s.lexeme [] (subst (All IsFormed) s.all each)) s.is in
            (s.lexeme, s.all, rw (same_kind-is s.lexeme.kind kind parts.0) parts.1);
      }))

-- ---- tables of words

module _ {K : Type 0} (own : K → List ℕ) (all : List K) (each : (x : K) → entry_of own all (own x) ≡ Some x) where
  pub word_at-word : (t : Lexeme) (k : K) → word_at (entry_of own all) t ≡ Some k → IsWord (own k) t
  word_at-word t k is =
      let parts = meant_is (same_kind t.kind kinds.Word) (entry_of own all t.spelling) k is in
      record { kind = kind_is t.kind kinds.Word parts.0; text = entry-word own all t.spelling k parts.1 }

  pub word_at-is : (t : Lexeme) (k : K) → IsWord (own k) t → word_at (entry_of own all) t ≡ Some k
  word_at-is t k is = rw (same_kind-is t.kind kinds.Word is.kind) (ap (entry_of own all) is.text ∙ each k)

  pub word_at-there : (k : K) (t : Lexeme) → word_at (entry_of own all) t ≡ Some k → Word (own k) (t ∷ [])
  word_at-there k t means = one (IsWord (own k)) t (word_at-word t k means)

  pub word_at-back : (k : K) (ts : List Lexeme) → Word (own k) ts → (t : Lexeme) × (ts ≡ t ∷ []) × (word_at (entry_of own all) t ≡ Some k)
  word_at-back k ts s = (s.lexeme, s.all, word_at-is s.lexeme k s.is)

  pub word_at-made : (k : K) → word_at (entry_of own all) (made kinds.Word (own k)) ≡ Some k
  word_at-made k = word_at-is (made kinds.Word (own k)) k (record { kind = refl; text = refl })

  -- a token that is a word of a table
  pub word_at-rule : (x : K) → has_name_form (own x) ≡ true → IsRule TooDeep IsFormed (leaf (word_at (entry_of own all))) (λ x. Word (own x)) (λ _. Anything) (λ _. Unit {0}) Never
  word_at-rule x form = leaf-rule _ _ _ (made kinds.Word (own x)) x form (word_at-made x) (record { there = word_at-there; back = λ k ts each s. word_at-back k ts s })

  pub table-rule : (x : K) → has_name_form (own x) ≡ true
      → IsRule TooDeep IsFormed (token kinds.Word (λ place spelling. entry_of own all spelling)) (λ x. Word (own x)) (λ _. Anything) (λ _. Unit {0}) Never
  table-rule x form = as_token _ _ (λ x. IsWord (own x)) (word_at-rule x form)
