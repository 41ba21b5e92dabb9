-- Words, as the bytes of a text show them.
use Rattle.std.proofs.Common.{◌≡◌, ℕ, suc, ◌+◌, ◌<◌, ◌≤◌, Bool, true, false, ◌&&◌, ◌||◌, cond, ltb, eqb, List, [], ◌∷◌, ◌++◌, length, take, drop, get_or, slice_get, None, Ok, Err, refl, sym, ap, ◌∙◌, subst, arith}
use Rattle.std.specs.Char.{is_ascii, is_ascii_alphabetic, encode_utf8}
use Rattle.std.specs.List.{list_all, prefix_len, take_while}
use Rattle.std.specs.Str.{IsUtf8, chars, encode_utf8_all}
use Rattle.std.proofs.lemmas.Bool.Decides.{nat_tests}
use Rattle.std.proofs.lemmas.List.Folds.{length-prefix_len}
use Rattle.std.proofs.lemmas.List.Sums.{take_while-cons}
use Rattle.std.proofs.lemmas.Str.{IsUtf8-past_char, chars_past_char, encode_ascii, encodes-chars, byte_from_char}
use Rattle.unicode_ident.specs.Ident.{is_xid_continue}
use Rattle.unicode_ident.proofs.IdentLemmas.{is_xid_start-ascii, is_xid_continue-ascii}
use Rattle.tydi_base.specs.declared.place.Place.{Place}
use Rattle.tydi_base.specs.Name.{is_name_byte, has_name_form}
use Rattle.til_lexer.specs.declared.fault.LexFault.TheVariants as faults
use Rattle.til_lexer.specs.declared.token.TokenKind.TheVariants as kinds
use Rattle.til_lexer.specs.declared.piece.Piece.TheVariants.{Token}
use Rattle.til_lexer.specs.Pieces.{word_token}
use Rattle.til_lexer.specs.Words.{starts_word, word_of, continues}
use Rattle.til_lexer.proofs.CutLemmas.{CanCut, prefix_ends, ends_cut}

-- ---- a text whose first byte is ASCII

cons_encode : (byte : ℕ) (bytes : List ℕ) → byte < 128 → byte ∷ bytes ≡ encode_utf8 byte ++ bytes
cons_encode byte bytes ascii = rw (encode_ascii byte ascii) refl

pub chars-ascii : (byte : ℕ) (bytes : List ℕ) → IsUtf8 (byte ∷ bytes) → byte < 128 → chars (byte ∷ bytes) ≡ byte ∷ chars bytes
chars-ascii byte bytes utf8 ascii = chars_past_char (byte ∷ bytes) bytes byte utf8 (cons_encode byte bytes ascii)

pub IsUtf8-ascii : (byte : ℕ) (bytes : List ℕ) → IsUtf8 (byte ∷ bytes) → byte < 128 → IsUtf8 bytes
IsUtf8-ascii byte bytes utf8 ascii = IsUtf8-past_char (byte ∷ bytes) bytes byte utf8 (cons_encode byte bytes ascii)

-- a first character that is ASCII is the first byte
first_byte : (text : List ℕ) (character : ℕ) (characters : List ℕ) → IsUtf8 text → chars text ≡ character ∷ characters → character < 128 → get_or text 0 0 ≡ character
first_byte text character characters utf8 same ascii =
    byte_from_char text (encode_utf8_all characters) character (sym (encodes-chars text utf8) ∙ ap encode_utf8_all same) ascii

pub is_name_byte-ascii : (byte : ℕ) → is_name_byte byte ≡ true → byte < 128
is_name_byte-ascii byte is = grind (arith, nat_tests)

-- ---- whether a word begins a text

pub first_char : (text : List ℕ) → IsUtf8 text → 0 < length text → get_or text 0 0 < 128 → get_or (chars text) 0 0 ≡ get_or text 0 0
first_char [] utf8 some ascii = absurd (omega arith)
first_char (byte ∷ bytes) utf8 some ascii = rw (chars-ascii byte bytes utf8 ascii) refl

pub letter_starts : (byte : ℕ) → byte < 128 → starts_word byte ≡ (is_ascii_alphabetic byte || eqb byte 95)
letter_starts byte ascii = let letter = is_xid_start-ascii byte ascii in grind (arith, nat_tests)

starts-ascii-at : (text : List ℕ) → IsUtf8 text → 1 ≤ length text → true ≡ is_ascii (get_or text 0 0) → (is_ascii_alphabetic (get_or text 0 0) || eqb (get_or text 0 0) 95) ≡ starts_word (get_or (chars text) 0 0)
starts-ascii-at text utf8 some is =
    let ascii : get_or text 0 0 < 128 = grind (arith, nat_tests) in
    sym (ap starts_word (first_char text utf8 some ascii) ∙ letter_starts (get_or text 0 0) ascii)

pub starts-ascii : (text bytes : List ℕ) → IsUtf8 text → bytes ≡ text → 1 ≤ length bytes → true ≡ is_ascii (get_or bytes 0 0) → (is_ascii_alphabetic (get_or bytes 0 0) || eqb (get_or bytes 0 0) 95) ≡ starts_word (get_or (chars text) 0 0)
starts-ascii text bytes utf8 same some is = rw same (starts-ascii-at text utf8 (rw same at some) (rw same at is))

-- no word begins where there is no character
pub starts-none : (characters : List ℕ) → None ≡ slice_get characters 0 → false ≡ starts_word (get_or characters 0 0)
starts-none [] none = sym (letter_starts 0 (omega arith))
starts-none (character ∷ characters) none = absurd cc

-- ---- the characters that go on after the name bytes at the front

tail_of : List ℕ → List ℕ
tail_of bytes = take_while is_xid_continue (chars bytes)

record Runs (bytes : List ℕ) (count : ℕ) : Type 0 where
  pub ascii : continues (chars (drop count bytes)) ≡ false → tail_of bytes ≡ take count bytes
  pub other : continues (chars (drop count bytes)) ≡ true → list_all is_ascii (tail_of bytes) ≡ false

Runs-nil : Runs [] 0
unfolding chars tail_of
Runs-nil = record { ascii = λ _. refl; other = λ e. absurd cc }

Runs-cons : (byte : ℕ) (bytes : List ℕ) (count : ℕ) → IsUtf8 (byte ∷ bytes) → is_name_byte byte ≡ true → Runs bytes count → Runs (byte ∷ bytes) (suc count)
unfolding tail_of
Runs-cons byte bytes count utf8 is runs =
    let ascii : byte < 128 = is_name_byte-ascii byte is in
    let goes : is_xid_continue byte ≡ true = is_xid_continue-ascii byte ascii ∙ is in
    let tail : take_while is_xid_continue (chars (byte ∷ bytes)) ≡ byte ∷ take_while is_xid_continue (chars bytes) =
    ap (λ cs. take_while is_xid_continue cs) (chars-ascii byte bytes utf8 ascii) ∙ take_while-cons is_xid_continue byte (chars bytes) ∙ ap (λ b. cond b (byte ∷ take_while is_xid_continue (chars bytes)) []) goes in
    let first : is_ascii byte ≡ true = grind (arith, nat_tests) in
    record {
      ascii = λ ends. tail ∙ ap (λ (l : List ℕ). byte ∷ l) (runs.ascii ends);
      other = λ goes_on. ap (list_all is_ascii) tail ∙ rw (first, runs.other goes_on) refl;
    }

Runs-stops : (bytes : List ℕ) → IsUtf8 bytes → is_name_byte (get_or bytes 0 0) ≡ false → Runs bytes 0
unfolding tail_of
Runs-stops bytes utf8 is_not = record { ascii = (of_chars (chars bytes) refl).0; other = (of_chars (chars bytes) refl).1 }
  where
    goes_on : (character : ℕ) (characters : List ℕ) (ascii : Bool) → chars bytes ≡ character ∷ characters → ltb character 128 ≡ ascii → is_xid_continue character ≡ true → ltb character 128 ≡ false
    goes_on character characters false same test goes = test
    goes_on character characters true same test goes =
        let below : character < 128 = grind (arith, nat_tests) in
        let first : get_or bytes 0 0 ≡ character = first_byte bytes character characters utf8 same below in
        let name : is_name_byte character ≡ true = sym (is_xid_continue-ascii character below) ∙ goes in
        let not_name : is_name_byte character ≡ false = ap is_name_byte (sym first) ∙ is_not in
        absurd cc

    of_chars : (characters : List ℕ) → chars bytes ≡ characters → (continues characters ≡ false → take_while is_xid_continue characters ≡ []) × (continues characters ≡ true → list_all is_ascii (take_while is_xid_continue characters) ≡ false)
    of_chars [] same = (λ _. refl, λ e. absurd cc)
    of_chars (character ∷ characters) same = (
      λ ends. take_while-cons is_xid_continue character characters ∙ ap (λ b. cond b (character ∷ take_while is_xid_continue characters) []) ends,
      λ goes. ap (list_all is_ascii) (take_while-cons is_xid_continue character characters ∙ ap (λ b. cond b (character ∷ take_while is_xid_continue characters) []) goes) ∙ rw (goes_on character characters (ltb character 128) same refl goes) refl,
    )

runs : (bytes : List ℕ) → IsUtf8 bytes → Runs bytes (prefix_len is_name_byte bytes)
runs [] utf8 = Runs-nil
runs (byte ∷ bytes) utf8 = by_cases (is_name_byte byte) refl (runs bytes)
  where
    by_cases : (name : Bool) → is_name_byte byte ≡ name → (IsUtf8 bytes → Runs bytes (prefix_len is_name_byte bytes)) → Runs (byte ∷ bytes) (cond name (1 + prefix_len is_name_byte bytes) 0)
    by_cases true is further =
        let next : suc (prefix_len is_name_byte bytes) ≡ 1 + prefix_len is_name_byte bytes = omega arith in
        subst (λ count. Runs (byte ∷ bytes) count) next (Runs-cons byte bytes (prefix_len is_name_byte bytes) utf8 is (further (IsUtf8-ascii byte bytes utf8 (is_name_byte-ascii byte is))))
    by_cases false is further = Runs-stops (byte ∷ bytes) utf8 is

-- ---- the word at the front of a text

record Word (text : List ℕ) (count : ℕ) : Type 0 where
  pub ascii : continues (chars (drop count text)) ≡ false → word_of (chars text) ≡ take count text
  pub other : continues (chars (drop count text)) ≡ true → list_all is_ascii (word_of (chars text)) ≡ false

Word-cons : (byte : ℕ) (bytes : List ℕ) (count : ℕ) → IsUtf8 (byte ∷ bytes) → is_name_byte byte ≡ true → Runs bytes count → Word (byte ∷ bytes) (suc count)
unfolding tail_of word_of
Word-cons byte bytes count utf8 is runs =
    let ascii : byte < 128 = is_name_byte-ascii byte is in
    let word : word_of (chars (byte ∷ bytes)) ≡ byte ∷ take_while is_xid_continue (chars bytes) = ap word_of (chars-ascii byte bytes utf8 ascii) in
    let first : is_ascii byte ≡ true = grind (arith, nat_tests) in
    record {
      ascii = λ ends. word ∙ ap (λ (l : List ℕ). byte ∷ l) (runs.ascii ends);
      other = λ goes_on. ap (list_all is_ascii) word ∙ rw (first, runs.other goes_on) refl;
    }

word_at : (text : List ℕ) → IsUtf8 text → 0 < prefix_len is_name_byte text → Word text (prefix_len is_name_byte text)
word_at [] utf8 some = absurd (omega arith)
word_at (byte ∷ bytes) utf8 some = by_cases (is_name_byte byte) refl some
  where
    by_cases : (name : Bool) → is_name_byte byte ≡ name → 0 < cond name (1 + prefix_len is_name_byte bytes) 0 → Word (byte ∷ bytes) (cond name (1 + prefix_len is_name_byte bytes) 0)
    by_cases true is some =
        let next : suc (prefix_len is_name_byte bytes) ≡ 1 + prefix_len is_name_byte bytes = omega arith in
        subst (λ count. Word (byte ∷ bytes) count) next (Word-cons byte bytes (prefix_len is_name_byte bytes) utf8 is (runs bytes (IsUtf8-ascii byte bytes utf8 (is_name_byte-ascii byte is))))
    by_cases false is some = absurd (omega arith)

-- a word that begins with no name byte is not ASCII
starts-name_byte : (character : ℕ) → character < 128 → starts_word character ≡ true → is_name_byte character ≡ true
starts-name_byte character ascii is = let letter = is_xid_start-ascii character ascii in grind (arith, nat_tests)

name_byte-prefix : (text : List ℕ) → is_name_byte (get_or text 0 0) ≡ true → 0 < prefix_len is_name_byte text
name_byte-prefix [] is = absurd cc
name_byte-prefix (byte ∷ bytes) is = rw is (omega arith)

none-ascii : (text : List ℕ) → IsUtf8 text → prefix_len is_name_byte text ≡ 0 → starts_word (get_or (chars text) 0 0) ≡ true → list_all is_ascii (word_of (chars text)) ≡ false
unfolding word_of
none-ascii text utf8 none starts = of_chars (chars text) refl starts
  where
    not_ascii : (character : ℕ) (characters : List ℕ) (ascii : Bool) → chars text ≡ character ∷ characters → ltb character 128 ≡ ascii → starts_word character ≡ true → ltb character 128 ≡ false
    not_ascii character characters false same test is = test
    not_ascii character characters true same test is =
        let below : character < 128 = grind (arith, nat_tests) in
        let first : get_or text 0 0 ≡ character = first_byte text character characters utf8 same below in
        let some : 0 < prefix_len is_name_byte text = name_byte-prefix text (ap is_name_byte first ∙ starts-name_byte character below is) in
        absurd (omega arith)

    of_chars : (characters : List ℕ) → chars text ≡ characters → starts_word (get_or characters 0 0) ≡ true → list_all is_ascii (word_of characters) ≡ false
    of_chars [] same is = let name = starts-name_byte 0 (omega arith) is in absurd cc
    of_chars (character ∷ characters) same is = rw (not_ascii character characters (ltb character 128) same refl is) refl

-- ---- name bytes alone

pub prefix_all : (p : ℕ → Bool) (bytes : List ℕ) → list_all p (take (prefix_len p bytes) bytes) ≡ true
prefix_all p [] = refl
prefix_all p (byte ∷ bytes) = by_cases (p byte) refl (prefix_all p bytes)
  where
    by_cases : (passes : Bool) → p byte ≡ passes → list_all p (take (prefix_len p bytes) bytes) ≡ true → list_all p (take (cond passes (1 + prefix_len p bytes) 0) (byte ∷ bytes)) ≡ true
    by_cases true is further = let next : 1 + prefix_len p bytes ≡ suc (prefix_len p bytes) = omega arith in rw (next, is, further) refl
    by_cases false is further = refl

pub all_ascii : (p : ℕ → Bool) → ((byte : ℕ) → p byte ≡ true → byte < 128) → (bytes : List ℕ) → list_all p bytes ≡ true → list_all is_ascii bytes ≡ true
all_ascii p ascii [] all = refl
all_ascii p ascii (byte ∷ bytes) all = by_cases (p byte) refl (all_ascii p ascii bytes) all
  where
    by_cases : (passes : Bool) → p byte ≡ passes → (list_all p bytes ≡ true → list_all is_ascii bytes ≡ true) → (passes && list_all p bytes) ≡ true → list_all is_ascii (byte ∷ bytes) ≡ true
    by_cases true is further rest = let below = ascii byte is in let first : ltb byte 128 ≡ true = grind (arith, nat_tests) in rw (first, further rest) refl
    by_cases false is further rest = absurd cc

names_ascii : (word : List ℕ) → list_all is_name_byte word ≡ true → list_all is_ascii word ≡ true
names_ascii word all = all_ascii is_name_byte is_name_byte-ascii word all

-- ---- the word at the front of a text

pub name_cut : (text : List ℕ) (count : ℕ) → IsUtf8 text → count ≡ prefix_len is_name_byte text → 0 < count → CanCut text count
name_cut text count utf8 is some = rw is (ends_cut text (prefix_len is_name_byte text) utf8 (prefix_ends is_name_byte is_name_byte-ascii text (rw is at some)))

pub prefix_names : (text : List ℕ) (count : ℕ) → count ≡ prefix_len is_name_byte text → list_all is_name_byte (take count text) ≡ true
prefix_names text count is = rw is (prefix_all is_name_byte text)

pub word-none : (place : Place) (text : List ℕ) (count : ℕ) → IsUtf8 text → count ≡ prefix_len is_name_byte text → count ≡ 0 → starts_word (get_or (chars text) 0 0) ≡ true → Err (faults.NameNotAscii place) ≡ word_token place (word_of (chars text))
unfolding word_token
word-none place text count utf8 is none starts = rw (none-ascii text utf8 (sym is ∙ none) starts) refl

pub word-other : (place : Place) (text : List ℕ) (count : ℕ) → IsUtf8 text → count ≡ prefix_len is_name_byte text → 0 < count → continues (chars (drop count text)) ≡ true → Err (faults.NameNotAscii place) ≡ word_token place (word_of (chars text))
unfolding word_token
word-other place text count utf8 is some goes =
    let word : Word text count = rw is (word_at text utf8 (rw is at some)) in
    rw (word.other goes) refl

ascii_word : (text : List ℕ) (count : ℕ) → IsUtf8 text → count ≡ prefix_len is_name_byte text → 0 < count → continues (chars (drop count text)) ≡ false → word_of (chars text) ≡ take count text
ascii_word text count utf8 is some ends =
    let word : Word text count = rw is (word_at text utf8 (rw is at some)) in
    word.ascii ends

pub word-name : (place : Place) (text : List ℕ) (count : ℕ) → IsUtf8 text → count ≡ prefix_len is_name_byte text → 0 < count → continues (chars (drop count text)) ≡ false → has_name_form (take count text) ≡ true → Ok (Token kinds.Word count) ≡ word_token place (word_of (chars text))
unfolding word_token
word-name place text count utf8 is some ends form =
    let size : length (take count text) ≡ count = rw is (length-prefix_len is_name_byte text) in
    rw (ascii_word text count utf8 is some ends, names_ascii (take count text) (prefix_names text count is), form, size) refl

pub word-bad : (place : Place) (text : List ℕ) (count : ℕ) → IsUtf8 text → count ≡ prefix_len is_name_byte text → 0 < count → continues (chars (drop count text)) ≡ false → has_name_form (take count text) ≡ false → Err (faults.BadName place) ≡ word_token place (word_of (chars text))
unfolding word_token
word-bad place text count utf8 is some ends form =
    rw (ascii_word text count utf8 is some ends, names_ascii (take count text) (prefix_names text count is), form) refl
