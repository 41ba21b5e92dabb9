-- Texts that are printed of tokens and white space, and what their tokens spell when they are read.
use Rattle.til_parser.proofs.rules.Common.{◌≡◌, true, false, ℕ, List, [], ◌∷◌, ◌++◌, length, drop, refl, sym, ap, subst, ◌∙◌, codes, append-nil, list_all, Place, HasForm}
use Rattle.til_parser.proofs.rules.Common.{has_name_form, TokenKind, ◌⋯◌, Nothing, Form, Bracketed, Of, One, Word, Lexeme}
use Rattle.std.proofs.Common.{get_or, map, take, append_assoc, take-append-drop}
use Rattle.std.proofs.{Math.Seq.drop-append_seam, Math.Seq.take-append_seam, lemmas.List.drop-map, lemmas.List.length-map, lemmas.List.take-map}
use Rattle.std.proofs.lemmas.List.{nil_from_length, Folds.list_all-append}
use Rattle.til_lexer.specs.Spelling.{AreSpelled, IsApart, Spelled, goes_on, runs_on, spelled_text}
use Rattle.til_lexer.specs.{Places.place_past, Spans.is_space}
use Rattle.til_lexer.proofs.{SpelledPieces.goes-less, SpelledTokens.first_spelled, SpelledTokens.made_of}
use Rattle.til_lexer.specs.declared.token.TokenKind.TheVariants as kinds

-- ---- texts of tokens

-- a token is shown by its kind and its text
abbrev pub Shown : Type 0
Shown = TokenKind × List ℕ

abbrev pub shown : Lexeme → Shown
shown lexeme = (lexeme.kind, lexeme.spelling)

-- a text is white space, and then these tokens, each spelled in its form, with white space after it or apart from the next
pub record IsSplit (text : List ℕ) (tokens : List Shown) : Type 0 where
  pub gap : List ℕ
  pub pieces : List Spelled
  pub is : text ≡ gap ++ spelled_text pieces
  pub space : list_all is_space gap ≡ true
  pub spelled : AreSpelled pieces
  pub made : (place : Place) → made_of (λ kind text _. (kind, text)) place pieces ≡ tokens

-- a token of this kind would not go on with a text after it
abbrev pub Stops : TokenKind → List ℕ → Type 0
Stops kind text = runs_on kind (get_or text 0 0) ≡ false

apart_from : (kind : TokenKind) (spelling gap : List ℕ) (pieces : List Spelled) → AreSpelled pieces → goes_on kind spelling (get_or (gap ++ spelled_text pieces) 0 0) ≡ false
    → IsApart (record { kind = kind; spelling = spelling; gap = gap }) pieces
apart_from kind spelling gap [] are stops = tt
apart_from kind spelling gap (next ∷ pieces) are stops = λ none.
    ap (goes_on kind spelling) (sym (first_spelled next pieces are.0))
    ∙ subst (λ g. goes_on kind spelling (get_or (g ++ spelled_text (next ∷ pieces)) 0 0) ≡ false) none stops

-- ---- printed texts

-- a text is printed of tokens. Its last one is of this kind, or of one that goes on with less; what is read of its tokens is
-- something of A, in the form that belongs to it.
pub record Printed {A : Type 0} (last : TokenKind) (text : List ℕ) (P : A → Form) : Type 0 where
  pub tokens : List Shown
  pub before : (rest : List ℕ) (more : List Shown) → Stops last rest → IsSplit rest more → IsSplit (text ++ rest) (tokens ++ more)
  pub reads : (ts : List Lexeme) → map shown ts ≡ tokens → (a : A) × P a ts

-- a fixed form, of which nothing is read
abbrev pub Fixed : TokenKind → List ℕ → Form → Type 0
Fixed last text F = Printed {A = Unit {0}} last text (λ _. F)

-- a kind of token that goes on with nothing
abbrev pub free : TokenKind
free = kinds.Comma

-- a text that is read as one thing is read as another too
pub made : {A B : Type 0} {P : A → Form} {Q : B → Form} {last : TokenKind} {text : List ℕ} (f : A → B) → ((a : A) (ts : List Lexeme) → P a ts → Q (f a) ts)
    → Printed last text P → Printed last text Q
made f holds printed = record {
  tokens = printed.tokens;
  before = printed.before;
  reads = λ ts are. let found = printed.reads ts are in (f found.0, holds found.0 ts found.1);
}

-- a text that is read as one thing is seen as another
pub seen : {A B : Type 0} {Q : B → Form} {last : TokenKind} {text : List ℕ} (f : A → B) → Printed last text (λ a. Q (f a)) → Printed last text Q
seen f printed = made f (λ a ts is. is) printed

-- with nothing after it
pub at_end : {A : Type 0} {P : A → Form} {last : TokenKind} {text : List ℕ} → Printed last text P → Printed last (text ++ []) P
at_end {P = P} {last = last} {text = text} printed = subst (λ l. Printed last l P) (sym (append-nil text)) printed

-- the same tokens are read as the same
retold : {A : Type 0} {P : A → Form} {last wide : TokenKind} {text other : List ℕ} (printed : Printed last text P)
    → ((rest : List ℕ) (more : List Shown) → Stops wide rest → IsSplit rest more → IsSplit (other ++ rest) (printed.tokens ++ more)) → Printed wide other P
retold printed before = record { tokens = printed.tokens; before = before; reads = printed.reads }

-- a text that goes on with nothing stands where a word may
pub worded : {A : Type 0} {P : A → Form} {text : List ℕ} → Printed free text P → Printed kinds.Word text P
worded printed = retold printed (λ rest more stops. printed.before rest more refl)

-- the one and then the other, with which the one does not go on, whatever follows
pub followed : {A B : Type 0} {P : A → Form} {Q : B → Form} {last next : TokenKind} {one other : List ℕ}
    → Printed last one P → Printed next other Q → ((rest : List ℕ) → Stops next rest → Stops last (other ++ rest))
    → Printed next (one ++ other) (λ (both : A × B). P both.0 ⋯ Q both.1)
followed {one = one} {other = other} first second between = record {
  tokens = first.tokens ++ second.tokens;
  before = λ rest more stops split. rw (append_assoc one other rest, append_assoc first.tokens second.tokens more)
      (first.before (other ++ rest) (second.tokens ++ more) (between rest stops) (second.before rest more stops split));
  reads = λ ts are.
      let n = length first.tokens in
      let front = first.reads (take n ts) (sym (take-map shown n ts) ∙ ap (take n) are ∙ take-append_seam first.tokens second.tokens) in
      let back = second.reads (drop n ts) (sym (drop-map shown n ts) ∙ ap (drop n) are ∙ drop-append_seam first.tokens second.tokens) in
      ((front.0, back.0), record { front = take n ts; back = drop n ts; all = sym (take-append-drop n ts); begins = front.1; ends = back.1 });
}

-- a fixed form that goes on with nothing, before another
pub prefixed : {A : Type 0} {F : Form} {P : A → Form} {next : TokenKind} {one other : List ℕ}
    → Fixed free one F → Printed next other P → Printed next (one ++ other) (λ a. F ⋯ P a)
prefixed first second = made (λ both. both.1) (λ both ts is. is) (followed first second (λ _ _. refl))

-- the one and then the other, where the one does not go on with the first byte of the other
pub joined : {A B : Type 0} {P : A → Form} {Q : B → Form} {last next : TokenKind} {one other : List ℕ} {byte : ℕ}
    → Printed last one P → Printed next (byte ∷ other) Q → runs_on last byte ≡ false → Printed next (one ++ byte ∷ other) (λ (both : A × B). P both.0 ⋯ Q both.1)
joined first second apart = followed first second (λ _ _. apart)

-- a fixed form before another
pub led : {A : Type 0} {F : Form} {P : A → Form} {last next : TokenKind} {one other : List ℕ} {byte : ℕ}
    → Fixed last one F → Printed next (byte ∷ other) P → runs_on last byte ≡ false → Printed next (one ++ byte ∷ other) (λ a. F ⋯ P a)
led first second apart = made (λ both. both.1) (λ both ts is. is) (joined first second apart)

-- a fixed form after another
pub suffixed : {A : Type 0} {P : A → Form} {F : Form} {last next : TokenKind} {one other : List ℕ} {byte : ℕ}
    → Printed last one P → Fixed next (byte ∷ other) F → runs_on last byte ≡ false → Printed next (one ++ byte ∷ other) (λ a. P a ⋯ F)
suffixed first second apart = made (λ both. both.0) (λ both ts is. is) (joined first second apart)

-- ---- white space

with_gap : (gap : List ℕ) → list_all is_space gap ≡ true → {rest : List ℕ} {more : List Shown} → IsSplit rest more → IsSplit (gap ++ rest) more
with_gap gap space s = record {
  gap = gap ++ s.gap;
  pieces = s.pieces;
  is = ap (λ l. gap ++ l) s.is ∙ sym (append_assoc gap s.gap (spelled_text s.pieces));
  space = list_all-append is_space gap s.gap ∙ rw (space, s.space) refl;
  spelled = s.spelled;
  made = s.made;
}

-- a byte of white space after what is printed: 32 for a space, 10 for an LF
pub spaced : {A : Type 0} {P : A → Form} {last : TokenKind} {text : List ℕ} (gap : ℕ) → is_space gap ≡ true → runs_on last gap ≡ false
    → Printed last text P → Printed free (text ++ gap ∷ []) P
spaced {text = text} gap space apart printed = retold printed (λ rest more stops s.
    rw (append_assoc text (gap ∷ []) rest) (printed.before (gap ∷ rest) more apart (with_gap (gap ∷ []) (rw space refl) s)))

-- white space before what is printed
pub indented : {A : Type 0} {P : A → Form} {last : TokenKind} {text : List ℕ} (gap : List ℕ) → list_all is_space gap ≡ true
    → Printed last text P → Printed last (gap ++ text) P
indented {text = text} gap space printed =
    retold printed (λ rest more stops s. rw (append_assoc gap text rest) (with_gap gap space (printed.before rest more stops s)))

-- ---- tokens

one_match : (kind : TokenKind) (spelling : List ℕ) (ts : List Lexeme) → map shown ts ≡ (kind, spelling) ∷ []
    → (lexeme : Lexeme) × (ts ≡ lexeme ∷ []) × (lexeme.kind ≡ kind) × (lexeme.spelling ≡ spelling)
one_match kind spelling [] are = absurd cc
one_match kind spelling (lexeme ∷ []) are = let first = ap (λ l. get_or l 0 (kind, spelling)) are in (lexeme, refl, ap (λ p. p.0) first, ap (λ p. p.1) first)
one_match kind spelling (lexeme ∷ next ∷ ts) are = absurd cc

-- a token, which goes on with no more than one of the last kind, and what it is read as
pub one_token : {A : Type 0} {Is : A → Lexeme → Type 0} {last : TokenKind} (kind : TokenKind) (spelling : List ℕ) → HasForm kind spelling
    → ((byte : ℕ) → runs_on last byte ≡ false → goes_on kind spelling byte ≡ false)
    → ((lexeme : Lexeme) → lexeme.kind ≡ kind → lexeme.spelling ≡ spelling → (a : A) × Is a lexeme) → Printed last spelling (λ a. One (Is a))
one_token {last = last} kind spelling form less reads = record {
  tokens = (kind, spelling) ∷ [];
  before = λ rest more stops s. record {
    gap = [];
    pieces = record { kind = kind; spelling = spelling; gap = s.gap } ∷ s.pieces;
    is = ap (λ l. spelling ++ l) s.is ∙ sym (append_assoc spelling s.gap (spelled_text s.pieces));
    space = refl;
    spelled = (record { form = form; space = s.space }, apart_from kind spelling s.gap s.pieces s.spelled (less _ (subst (Stops last) s.is stops)), s.spelled);
    made = λ place. ap (λ l. (kind, spelling) ∷ l) (s.made (place_past place (spelling ++ s.gap)));
  };
  reads = λ ts are.
      let one = one_match kind spelling ts are in
      let found = reads one.0 one.2 one.3 in
      (found.0, record { lexeme = one.0; all = one.1; is = found.1 });
}

-- nothing is printed
pub nothing : {last : TokenKind} → Fixed last [] Nothing
nothing = record {
  tokens = [];
  before = λ rest more stops s. s;
  reads = λ ts are. (tt, nil_from_length ts (sym (length-map ts shown) ∙ ap length are));
}

-- a symbol that goes on with nothing
pub symbol : (kind : TokenKind) (spelling : List ℕ) → HasForm kind spelling → ((byte : ℕ) → runs_on kind byte ≡ false) → Fixed free spelling (Of kind)
symbol kind spelling form stops = one_token kind spelling form (λ byte _. goes-less kind spelling byte (stops byte)) (λ lexeme kind_is spelling_is. (tt, kind_is))

pub word : (spelling : List ℕ) → has_name_form spelling ≡ true → Fixed kinds.Word spelling (Word spelling)
word spelling form = one_token kinds.Word spelling form (λ _ s. s) (λ lexeme kind_is spelling_is. (tt, record { kind = kind_is; text = spelling_is }))

-- a word with a space after it
pub keyword : (spelling : List ℕ) → has_name_form spelling ≡ true → Fixed free (spelling ++ codes " ") (Word spelling)
keyword spelling form = spaced 32 refl refl (word spelling form)

-- and before it
pub between_words : (spelling : List ℕ) → has_name_form spelling ≡ true → Fixed free (codes " " ++ (spelling ++ codes " ")) (Word spelling)
between_words spelling form = indented (codes " ") refl (keyword spelling form)

-- a symbol with a space after it
pub comma : Fixed free (codes ", ") (Of kinds.Comma)
comma = spaced 32 refl refl (symbol kinds.Comma (codes ",") refl (λ _. refl))

pub colon : Fixed free (codes ": ") (Of kinds.Colon)
colon = spaced {last = kinds.Colon} 32 refl refl (one_token kinds.Colon (codes ":") refl (λ _ s. s) (λ lexeme kind_is spelling_is. (tt, kind_is)))

-- and before it
pub equals : Fixed free (codes " = ") (Of kinds.Equals)
equals = indented (codes " ") refl (spaced 32 refl refl (symbol kinds.Equals (codes "=") refl (λ _. refl)))

-- in round brackets
pub bracketed : {A : Type 0} {P : A → Form} {last : TokenKind} {text : List ℕ} → runs_on last 41 ≡ false → Printed last text P
    → Printed free (codes "(" ++ (text ++ codes ")")) (λ a. Bracketed (P a))
bracketed apart inside = prefixed (symbol kinds.OpenParen (codes "(") refl (λ _. refl)) (suffixed inside (symbol kinds.CloseParen (codes ")") refl (λ _. refl)) apart)

-- a word, a colon and what follows it
pub labelled : {A : Type 0} {P : A → Form} {last : TokenKind} {text : List ℕ} (spelling : List ℕ) → has_name_form spelling ≡ true
    → Printed last text P → Printed last (spelling ++ (codes ": " ++ text)) (λ a. Word spelling ⋯ Of kinds.Colon ⋯ P a)
labelled spelling form printed = led (word spelling form) (prefixed colon printed) refl
