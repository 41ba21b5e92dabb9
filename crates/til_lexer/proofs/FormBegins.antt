-- How a text begins that has the form of a token, and that it is in UTF-8.
use Rattle.std.proofs.Common.{◌≡◌, ℕ, ◌<◌, inl, inr, Bool, true, false, not, ◌&&◌, eqb, List, [], ◌∷◌, ◌++◌, length, get_or, refl, sym, subst, arith}
use Rattle.std.specs.Char.{is_ascii, is_ascii_alphabetic, is_ascii_digit}
use Rattle.std.specs.List.{list_all}
use Rattle.std.specs.Str.{IsUtf8}
use Rattle.std.proofs.lemmas.Bool.Decides.{nat_tests}
use Rattle.std.proofs.lemmas.List.{append-nil}
use Rattle.std.proofs.lemmas.Str.{IsUtf8-append, IsUtf8-from_ascii}
use Rattle.tydi_base.specs.Name.{is_name_byte, begins_with_letter, has_double_underscore, ends_in_underscore, has_name_form}
use Rattle.til_lexer.specs.declared.token.TokenKind.{TokenKind}
use Rattle.til_lexer.specs.declared.token.TokenKind.TheVariants as kinds
use Rattle.til_lexer.specs.Spans.{is_space}
use Rattle.til_lexer.specs.Spelling.{AreDigits, HasForm, IsBetween}
use Rattle.til_lexer.proofs.CutLemmas.{is_ascii_digit-ascii}
use Rattle.til_lexer.proofs.PieceCuts.{ascii_at}
use Rattle.til_lexer.proofs.WordLemmas.{all_ascii, is_name_byte-ascii}

-- ---- names

pub name_letter : (word : List ℕ) → has_name_form word ≡ true → is_ascii_alphabetic (get_or word 0 0) ≡ true
name_letter word form = by_cases (begins_with_letter word) (list_all is_name_byte word) (has_double_underscore word) (ends_in_underscore word) form
  where
    by_cases : (letter all double last : Bool) → (letter && all && not double && not last) ≡ true → letter ≡ true
    by_cases true all double last is = refl
    by_cases false all double last is = absurd cc

pub name_bytes : (word : List ℕ) → has_name_form word ≡ true → list_all is_name_byte word ≡ true
name_bytes word form = by_cases (begins_with_letter word) (list_all is_name_byte word) (has_double_underscore word) (ends_in_underscore word) form
  where
    by_cases : (letter all double last : Bool) → (letter && all && not double && not last) ≡ true → all ≡ true
    by_cases true true double last is = refl
    by_cases true false double last is = absurd cc
    by_cases false all double last is = absurd cc

-- ---- how what has a form begins

pub first_of_all : (p : ℕ → Bool) (byte : ℕ) (bytes : List ℕ) → list_all p (byte ∷ bytes) ≡ true → p byte ≡ true
first_of_all p byte bytes all = by_cases (p byte) all
  where
    by_cases : (first : Bool) → (first && list_all p bytes) ≡ true → first ≡ true
    by_cases true all = refl
    by_cases false all = absurd cc

-- a text begins with a byte of ASCII that is neither white space nor `/`
pub record Begins (text : List ℕ) : Type 0 where
  pub some : 0 < length text
  pub ascii : get_or text 0 0 < 128
  pub no_space : is_space (get_or text 0 0) ≡ false
  pub no_slash : eqb (get_or text 0 0) 47 ≡ false

word_begins : (word : List ℕ) → is_ascii_alphabetic (get_or word 0 0) ≡ true → Begins word
word_begins [] letter = absurd cc
word_begins (byte ∷ bytes) letter = record { some = omega arith; ascii = grind (arith, nat_tests); no_space = grind (arith, nat_tests); no_slash = grind (arith, nat_tests) }

digits_begin : (digits rest : List ℕ) → AreDigits digits → Begins (digits ++ rest)
digits_begin [] rest are = absurd (let some = are.some in omega arith)
digits_begin (byte ∷ bytes) rest are =
    let digit : is_ascii_digit byte ≡ true = first_of_all is_ascii_digit byte bytes are.each in
    record { some = omega arith; ascii = grind (arith, nat_tests); no_space = grind (arith, nat_tests); no_slash = grind (arith, nat_tests) }

bytes_begin : (text : List ℕ) (byte : ℕ) (bytes : List ℕ) → text ≡ byte ∷ bytes → byte < 128 → is_space byte ≡ false → eqb byte 47 ≡ false
    → Begins text
bytes_begin text byte bytes same ascii no_space no_slash = subst Begins (sym same) (record { some = omega arith; ascii = ascii; no_space = no_space; no_slash = no_slash })

pub form_begins : (kind : TokenKind) (text : List ℕ) → HasForm kind text → Begins text
form_begins kinds.Word text form = word_begins text (name_letter text form)
form_begins kinds.Number text (inl whole) = subst Begins (append-nil text) (digits_begin text [] whole.digits)
form_begins kinds.Number text (inr point) = subst Begins (sym point.parts) (digits_begin point.before (46 ∷ point.behind) point.digits_before)
form_begins kinds.Quoted text form = bytes_begin text 34 _ form.marked (omega arith) refl refl
form_begins kinds.Doc text form = bytes_begin text 35 _ form.marked (omega arith) refl refl
form_begins kinds.OpenBrace text form = bytes_begin text 123 _ form (omega arith) refl refl
form_begins kinds.CloseBrace text form = bytes_begin text 125 _ form (omega arith) refl refl
form_begins kinds.OpenParen text form = bytes_begin text 40 _ form (omega arith) refl refl
form_begins kinds.CloseParen text form = bytes_begin text 41 _ form (omega arith) refl refl
form_begins kinds.Colon text form = bytes_begin text 58 _ form (omega arith) refl refl
form_begins kinds.DoubleColon text form = bytes_begin text 58 _ form (omega arith) refl refl
form_begins kinds.Semicolon text form = bytes_begin text 59 _ form (omega arith) refl refl
form_begins kinds.Comma text form = bytes_begin text 44 _ form (omega arith) refl refl
form_begins kinds.Equals text form = bytes_begin text 61 _ form (omega arith) refl refl
form_begins kinds.Point text form = bytes_begin text 46 _ form (omega arith) refl refl
form_begins kinds.DoubleDash text form = bytes_begin text 45 _ form (omega arith) refl refl

-- ---- a text with a form is in UTF-8

pub ascii_utf8 : (text : List ℕ) → list_all is_ascii text ≡ true → IsUtf8 text
ascii_utf8 text all = IsUtf8-from_ascii text (λ at. ascii_at text at all)

digits_utf8 : (digits : List ℕ) → AreDigits digits → IsUtf8 digits
digits_utf8 digits are = ascii_utf8 digits (all_ascii is_ascii_digit is_ascii_digit-ascii digits are.each)

byte_utf8 : (byte : ℕ) → is_ascii byte ≡ true → IsUtf8 (byte ∷ [])
byte_utf8 byte ascii = ascii_utf8 (byte ∷ []) (rw ascii refl)

between_utf8 : (mark : ℕ) (text : List ℕ) → is_ascii mark ≡ true → IsBetween mark text → IsUtf8 text
between_utf8 mark text ascii is =
    let one = byte_utf8 mark ascii in
    subst IsUtf8 (sym is.marked) (IsUtf8-append (mark ∷ []) (is.inside ++ mark ∷ []) one (IsUtf8-append is.inside (mark ∷ []) is.utf8 one))

symbol_utf8 : (text codes : List ℕ) → text ≡ codes → list_all is_ascii codes ≡ true → IsUtf8 text
symbol_utf8 text codes same all = subst IsUtf8 (sym same) (ascii_utf8 codes all)

pub form_utf8 : (kind : TokenKind) (text : List ℕ) → HasForm kind text → IsUtf8 text
form_utf8 kinds.Word text form = ascii_utf8 text (all_ascii is_name_byte is_name_byte-ascii text (name_bytes text form))
form_utf8 kinds.Number text (inl whole) = digits_utf8 text whole.digits
form_utf8 kinds.Number text (inr point) = subst IsUtf8 (sym point.parts) (IsUtf8-append point.before (46 ∷ point.behind) (digits_utf8 point.before point.digits_before)
    (IsUtf8-append (46 ∷ []) point.behind (byte_utf8 46 refl) (digits_utf8 point.behind point.digits_behind)))
form_utf8 kinds.Quoted text form = between_utf8 34 text refl form
form_utf8 kinds.Doc text form = between_utf8 35 text refl form
form_utf8 kinds.OpenBrace text form = symbol_utf8 text _ form refl
form_utf8 kinds.CloseBrace text form = symbol_utf8 text _ form refl
form_utf8 kinds.OpenParen text form = symbol_utf8 text _ form refl
form_utf8 kinds.CloseParen text form = symbol_utf8 text _ form refl
form_utf8 kinds.Colon text form = symbol_utf8 text _ form refl
form_utf8 kinds.DoubleColon text form = symbol_utf8 text _ form refl
form_utf8 kinds.Semicolon text form = symbol_utf8 text _ form refl
form_utf8 kinds.Comma text form = symbol_utf8 text _ form refl
form_utf8 kinds.Equals text form = symbol_utf8 text _ form refl
form_utf8 kinds.Point text form = symbol_utf8 text _ form refl
form_utf8 kinds.DoubleDash text form = symbol_utf8 text _ form refl
