-- Each token that is found has the form of its kind.
use Rattle.std.proofs.Common.{◌≡◌, ℕ, suc, ◌+◌, ◌<◌, ◌≤◌, inl, inr, Bool, true, false, not, ◌&&◌, cond, eqb, ltb, List, []}
use Rattle.std.proofs.Common.{◌∷◌, ◌++◌, length, take, drop, get_or, Option, Some, None, IfSome, IfOk, refl, sym, ap, ◌∙◌, subst, arith, length-drop}
use Rattle.std.specs.Char.{is_ascii, is_ascii_digit}
use Rattle.std.specs.List.{list_all, position_or_len}
use Rattle.std.specs.Str.{IsUtf8, chars}
use Rattle.std.proofs.lemmas.Bool.Decides.{nat_tests}
use Rattle.std.proofs.Math.Seq.{take-add, take-suc, take-append_seam}
use Rattle.std.proofs.lemmas.Bool.{eqb-false}
use Rattle.std.proofs.lemmas.List.{get_or-take, length-take-le}
use Rattle.std.proofs.lemmas.List.Folds.{length-prefix_len}
use Rattle.std.proofs.lemmas.List.Sums.{fails_before_first, passes_at_first, prefix_len-le-length}
use Rattle.std.proofs.lemmas.Str.{encodes-chars, IsCharBoundary-before_ascii, IsUtf8-drop, IsUtf8-take}
use Rattle.tydi_base.specs.declared.place.Place.{Place}
use Rattle.tydi_base.specs.Pieces.{Lacks}
use Rattle.til_lexer.specs.declared.fault.LexFault.{LexFault}
use Rattle.til_lexer.specs.declared.piece.Piece.{Piece}
use Rattle.til_lexer.specs.declared.piece.Piece.TheVariants as pieces
use Rattle.til_lexer.specs.declared.token.Token.{Token}
use Rattle.til_lexer.specs.declared.token.TokenKind.{TokenKind}
use Rattle.til_lexer.specs.declared.token.TokenKind.TheVariants as kinds
use Rattle.til_lexer.specs.Pieces.{piece_at, word_token, mark_at, number_token, symbol_token, single_symbol, double_symbol, closed_token}
use Rattle.til_lexer.specs.Slices.{IsTokenOf}
use Rattle.til_lexer.specs.Spans.{is_space, begins_comment, digits_at, digits_after_point, until_mark}
use Rattle.til_lexer.specs.Spelling.{AreDigits, HasForm, IsBetween, IsPointNumber, TokensHaveTheirForm, own_text}
use Rattle.til_lexer.specs.Words.{starts_word, word_of}
use Rattle.tydi_base.specs.Name.{has_name_form}
use Rattle.til_lexer.proofs.CutLemmas.{first_passes}
use Rattle.til_lexer.proofs.PieceCuts.{either, word_front}
use Rattle.til_lexer.proofs.SliceLemmas.{tokens_of-are}
use Rattle.til_lexer.proofs.WordLemmas.{IsUtf8-ascii, prefix_all}

-- a piece at the front of a text, if it is a token, has its form
abbrev pub Formed : List ℕ → Piece → Type 0
Formed bytes (pieces.Blank count) = Unit {0}
Formed bytes (pieces.Token kind count) = HasForm kind (take count bytes)

-- ---- symbols

choice : (byte symbol : ℕ) (kind : TokenKind) (rest : Option TokenKind) → HasForm kind (symbol ∷ [])
    → IfSome rest (λ found. HasForm found (byte ∷ [])) → IfSome (cond (eqb byte symbol) (Some kind) rest) (λ found. HasForm found (byte ∷ []))
choice byte symbol kind rest form holds = by_cases (eqb byte symbol) refl
  where
    by_cases : (same : Bool) → eqb byte symbol ≡ same → IfSome (cond same (Some kind) rest) (λ found. HasForm found (byte ∷ []))
    by_cases true is = let same : byte ≡ symbol = grind (arith, nat_tests) in subst (λ b. HasForm kind (b ∷ [])) (sym same) form
    by_cases false is = holds

single_symbol-form : (byte : ℕ) → IfSome (single_symbol byte) (λ kind. HasForm kind (byte ∷ []))
unfolding single_symbol
single_symbol-form byte =
    choice byte 123 kinds.OpenBrace _ refl (choice byte 125 kinds.CloseBrace _ refl (choice byte 40 kinds.OpenParen _ refl (choice byte 41 kinds.CloseParen _ refl
    (choice byte 58 kinds.Colon _ refl (choice byte 59 kinds.Semicolon _ refl (choice byte 44 kinds.Comma _ refl (choice byte 61 kinds.Equals _ refl (choice byte 46 kinds.Point None refl tt))))))))

double_symbol-form : (first second : ℕ) → IfSome (double_symbol first second) (λ kind. HasForm kind (first ∷ second ∷ []) × (0 < second))
unfolding double_symbol
double_symbol-form first second = by_cases (eqb first 58 && eqb second 58) (eqb first 45 && eqb second 45) refl refl
  where
    by_cases : (colons dashes : Bool) → (eqb first 58 && eqb second 58) ≡ colons → (eqb first 45 && eqb second 45) ≡ dashes
        → IfSome (cond colons (Some kinds.DoubleColon) (cond dashes (Some kinds.DoubleDash) None)) (λ kind. HasForm kind (first ∷ second ∷ []) × (0 < second))
    by_cases true dashes are is =
        let one : first ≡ 58 = grind (arith, nat_tests) in
        let two : second ≡ 58 = grind (arith, nat_tests) in
        (ap (λ b. b ∷ second ∷ []) one ∙ ap (λ b. 58 ∷ b ∷ []) two, omega arith)
    by_cases false true are is =
        let one : first ≡ 45 = grind (arith, nat_tests) in
        let two : second ≡ 45 = grind (arith, nat_tests) in
        (ap (λ b. b ∷ second ∷ []) one ∙ ap (λ b. 45 ∷ b ∷ []) two, omega arith)
    by_cases false false are is = tt

symbol_form : (place : Place) (bytes : List ℕ) (double single : Option TokenKind) → 0 < length bytes
    → IfSome double (λ kind. HasForm kind (get_or bytes 0 0 ∷ get_or bytes 1 0 ∷ []) × (0 < get_or bytes 1 0))
    → IfSome single (λ kind. HasForm kind (get_or bytes 0 0 ∷ []))
    → IfOk (symbol_token place double single) (Formed bytes)
unfolding symbol_token
symbol_form place [] double single some two one = absurd (omega arith)
symbol_form place (byte ∷ []) (Some kind) single some two one = absurd (let more = two.1 in omega arith)
symbol_form place (byte ∷ next ∷ bytes) (Some kind) single some two one = two.0
symbol_form place (byte ∷ bytes) None (Some kind) some two one = one
symbol_form place (byte ∷ bytes) None None some two one = tt

-- ---- numbers

digits_front : (bytes : List ℕ) → 0 < digits_at bytes → AreDigits (take (digits_at bytes) bytes)
digits_front bytes some = record { some = omega (arith, length-prefix_len is_ascii_digit bytes); each = prefix_all is_ascii_digit bytes }

-- a point and the digits behind it
fraction_front : (bytes : List ℕ) → 0 < digits_after_point bytes
    → (behind : List ℕ) × (take (suc (digits_after_point bytes)) bytes ≡ 46 ∷ behind) × AreDigits behind × (length behind ≡ digits_after_point bytes)
fraction_front [] some = absurd (omega arith)
fraction_front (byte ∷ bytes) some = by_cases (eqb byte 46) refl some
  where
    by_cases : (point : Bool) → eqb byte 46 ≡ point → 0 < cond point (digits_at bytes) 0
        → (behind : List ℕ) × (take (suc (cond point (digits_at bytes) 0)) (byte ∷ bytes) ≡ 46 ∷ behind) × AreDigits behind × (length behind ≡ cond point (digits_at bytes) 0)
    by_cases true is some =
        let first : byte ≡ 46 = grind (arith, nat_tests) in
        (take (digits_at bytes) bytes, ap (λ b. b ∷ take (digits_at bytes) bytes) first, digits_front bytes some, length-prefix_len is_ascii_digit bytes)
    by_cases false is some = absurd (omega arith)

point_number : (bytes : List ℕ) (fraction : ℕ) → 0 < digits_at bytes → fraction ≡ digits_after_point (drop (digits_at bytes) bytes) → 0 < fraction
    → digits_at bytes + fraction ≤ 18 → IsPointNumber (take (digits_at bytes + 1 + fraction) bytes)
point_number bytes fraction digits is some few =
    let front = fraction_front (drop (digits_at bytes) bytes) (omega arith) in
    let order : digits_at bytes + 1 + fraction ≡ digits_at bytes + suc (digits_after_point (drop (digits_at bytes) bytes)) = omega arith in
    let size = front.3 in
    record {
      before = take (digits_at bytes) bytes;
      behind = front.0;
      parts = ap (λ n. take n bytes) order ∙ take-add (digits_at bytes) (suc (digits_after_point (drop (digits_at bytes) bytes))) bytes
          ∙ ap (λ (l : List ℕ). take (digits_at bytes) bytes ++ l) front.1;
      digits_before = digits_front bytes digits;
      digits_behind = front.2;
      few = omega (arith, length-prefix_len is_ascii_digit bytes);
    }

pub number_form : (place : Place) (bytes : List ℕ) (whole fraction : ℕ) → whole ≡ digits_at bytes → 0 < whole
    → fraction ≡ digits_after_point (drop whole bytes) → IfOk (number_token place whole fraction) (Formed bytes)
unfolding number_token
number_form place bytes whole fraction counted some is = either (Formed bytes) (ltb 18 (whole + fraction)) _ _ (λ _. tt) (λ few. by_cases (eqb fraction 0) refl (grind (arith, nat_tests)))
  where
    by_cases : (none : Bool) → eqb fraction 0 ≡ none → whole + fraction ≤ 18
        → HasForm kinds.Number (take (cond none whole (whole + 1 + fraction)) bytes)
    by_cases true test few =
        let front : AreDigits (take whole bytes) = rw counted (digits_front bytes (rw counted at some)) in
        inl (record { digits = front; few = let size = length-prefix_len is_ascii_digit bytes in rw counted (omega arith) })
    by_cases false test few =
        let digits : 0 < digits_at bytes = omega arith in
        let more : 0 < fraction = grind (arith, nat_tests) in
        inr (rw counted (point_number bytes fraction digits (rw counted at is) more (omega arith)))

-- ---- the text between two marks

-- no such byte stands before the first
pub lacks-before : (mark : ℕ) (bytes : List ℕ) → Lacks mark (take (position_or_len (λ byte. eqb byte mark) bytes) bytes)
lacks-before mark bytes k d inside =
    let most = prefix_len-le-length (λ byte. not (eqb byte mark)) bytes in
    let size = length-take-le (position_or_len (λ byte. eqb byte mark) bytes) bytes (omega arith) in
    let before : k < position_or_len (λ byte. eqb byte mark) bytes = omega arith in
    let fails = fails_before_first (λ byte. eqb byte mark) bytes k d before in
    rw (get_or-take (position_or_len (λ byte. eqb byte mark) bytes) bytes k d before) (eqb-false (get_or bytes k d) mark fails)

between : (mark : ℕ) (bytes : List ℕ) → mark < 128 → IsUtf8 bytes → position_or_len (λ byte. eqb byte mark) bytes < length bytes
    → IsBetween mark (mark ∷ take (suc (position_or_len (λ byte. eqb byte mark) bytes)) bytes)
between mark bytes ascii utf8 within =
    let at : ℕ = position_or_len (λ byte. eqb byte mark) bytes in
    let passes = passes_at_first (λ byte. eqb byte mark) bytes 0 within in
    let last : get_or bytes at 0 ≡ mark = grind (arith, nat_tests) in
    let below : get_or bytes at 0 < 128 = omega arith in
    record {
      inside = take at bytes;
      marked = ap (λ (l : List ℕ). mark ∷ l) (take-suc bytes at 0 within ∙ ap (λ b. take at bytes ++ b ∷ []) last);
      lacks = lacks-before mark bytes;
      utf8 = IsUtf8-take bytes at utf8 (IsCharBoundary-before_ascii bytes at within below);
    }

closed_form : (kind : TokenKind) (fault : LexFault) (mark : ℕ) (bytes : List ℕ) → mark < 128 → 0 < length bytes → get_or bytes 0 0 ≡ mark
    → IsUtf8 bytes → ((text : List ℕ) → IsBetween mark text → HasForm kind text)
    → IfOk (closed_token kind fault (until_mark mark (drop 1 bytes))) (Formed bytes)
unfolding closed_token
closed_form kind fault mark [] ascii some first utf8 form = absurd (omega arith)
closed_form kind fault mark (byte ∷ bytes) ascii some first utf8 form = by_cases (ltb (position_or_len (λ b. eqb b mark) bytes) (length bytes)) refl
  where
    by_cases : (found : Bool) → ltb (position_or_len (λ b. eqb b mark) bytes) (length bytes) ≡ found
        → IfOk (closed_token kind fault (cond found (Some (position_or_len (λ b. eqb b mark) bytes)) None)) (Formed (byte ∷ bytes))
    by_cases true is =
        let within : position_or_len (λ b. eqb b mark) bytes < length bytes = grind (arith, nat_tests) in
        let size : suc (suc (position_or_len (λ b. eqb b mark) bytes)) ≡ position_or_len (λ b. eqb b mark) bytes + 2 = omega arith in
        let text : List ℕ = mark ∷ take (suc (position_or_len (λ b. eqb b mark) bytes)) bytes in
        let same : text ≡ take (position_or_len (λ b. eqb b mark) bytes + 2) (byte ∷ bytes) = ap (λ b. b ∷ take (suc (position_or_len (λ b. eqb b mark) bytes)) bytes) (sym first) ∙ ap (λ n. take n (byte ∷ bytes)) size in
        subst (HasForm kind) same (form text (between mark bytes ascii (IsUtf8-ascii byte bytes utf8 (omega arith)) within))
    by_cases false is = tt

-- ---- the piece at the front of a text

mark_form : (place : Place) (bytes : List ℕ) → IsUtf8 bytes → 0 < length bytes → IfOk (mark_at place bytes) (Formed bytes)
unfolding mark_at
mark_form place bytes utf8 some =
    either (Formed bytes) (is_ascii_digit (get_or bytes 0 0)) _ _ (λ digit. number_form place bytes (digits_at bytes) (digits_after_point (drop (digits_at bytes) bytes)) refl (first_passes is_ascii_digit bytes some digit) refl)
    (λ _. either (Formed bytes) (eqb (get_or bytes 0 0) 34) _ _ (λ mark. closed_form kinds.Quoted _ 34 bytes (omega arith) some (grind (arith, nat_tests)) utf8 (λ text is. is))
    (λ _. either (Formed bytes) (eqb (get_or bytes 0 0) 35) _ _ (λ mark. closed_form kinds.Doc _ 35 bytes (omega arith) some (grind (arith, nat_tests)) utf8 (λ text is. is))
    (λ _. symbol_form place bytes _ _ some (double_symbol-form (get_or bytes 0 0) (get_or bytes 1 0)) (single_symbol-form (get_or bytes 0 0)))))

word_form : (place : Place) (text : List ℕ) → IsUtf8 text → 0 < length text → IfOk (word_token place (word_of (chars text))) (Formed text)
unfolding word_token
word_form place text utf8 some =
    either (Formed text) (list_all is_ascii (word_of (chars text))) _ _
    (λ all. either (Formed text) (has_name_form (word_of (chars text))) _ _ (λ form. named all form) (λ _. tt))
    (λ _. tt)
  where
    named : list_all is_ascii (word_of (chars text)) ≡ true → has_name_form (word_of (chars text)) ≡ true
        → has_name_form (take (length (word_of (chars text))) text) ≡ true
    named all form =
        let front = word_front text (chars text) (sym (encodes-chars text utf8)) some all in
        let word : take (length (word_of (chars text))) text ≡ word_of (chars text) = ap (take (length (word_of (chars text)))) front.1
        ∙ take-append_seam (word_of (chars text)) front.0 in
        ap has_name_form word ∙ form

pub piece_form : (place : Place) (text : List ℕ) → IsUtf8 text → 0 < length text → IfOk (piece_at place text) (Formed text)
unfolding piece_at
piece_form place text utf8 some =
    either (Formed text) (is_space (get_or text 0 0)) _ _ (λ _. tt)
    (λ _. either (Formed text) (begins_comment text) _ _ (λ _. tt)
    (λ _. either (Formed text) (starts_word (get_or (chars text) 0 0)) _ _ (λ _. word_form place text utf8 some)
    (λ _. mark_form place text utf8 some)))

-- ---- the law

token_form : (text : List ℕ) (token : Token) → IsUtf8 text → IsTokenOf text token → HasForm token.kind (own_text text token)
token_form text token utf8 is =
    let some = is.some in
    let within = is.ends.0 in
    let rest : 0 < length (drop token.from text) = omega (arith, length-drop token.from text) in
    let found = is.piece in
    rw found at (piece_form token.place (drop token.from text) (IsUtf8-drop text token.from utf8 is.begins) rest)

pub tokens-have_form : TokensHaveTheirForm
tokens-have_form text tokens utf8 same k d within = token_form text (get_or tokens k d) utf8 (tokens_of-are text tokens utf8 same k d within)
