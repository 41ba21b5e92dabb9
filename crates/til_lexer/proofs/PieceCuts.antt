-- Each piece can be cut off the front of its text.
use Rattle.std.proofs.Common.{◌≡◌, ℕ, zero, suc, ◌+◌, ◌-◌, ◌<◌, Bool, true, false, not, ◌&&◌, cond, eqb, ltb, List, [], ◌∷◌, ◌++◌, length, take, drop, get_or, Option, Some, None, IfSome, Result, Ok, Err, IfOk, refl, sym, ap, ◌∙◌, subst, arith, length-append}
use Rattle.std.specs.Char.{is_ascii, is_ascii_digit}
use Rattle.std.specs.List.{list_all, position_or_len, prefix_len}
use Rattle.std.specs.Str.{IsUtf8, chars, encode_utf8_all}
use Rattle.std.proofs.lemmas.Bool.Decides.{nat_tests}
use Rattle.std.proofs.lemmas.List.{take-append-drop, get_or_append_left}
use Rattle.std.proofs.lemmas.List.Sums.{prefix_len_stops}
use Rattle.std.proofs.lemmas.Str.{encodes-append, encodes-IsAscii, encodes-chars}
use Rattle.unicode_ident.specs.Ident.{is_xid_continue}
use Rattle.tydi_base.specs.declared.place.Place.{Place}
use Rattle.til_lexer.specs.declared.fault.LexFault.{LexFault}
use Rattle.til_lexer.specs.declared.piece.Piece.{Piece}
use Rattle.til_lexer.specs.declared.token.TokenKind.{TokenKind}
use Rattle.til_lexer.specs.declared.token.TokenKind.TheVariants as kinds
use Rattle.til_lexer.specs.Tokens.{length_of}
use Rattle.til_lexer.specs.Pieces.{piece_at, word_token, mark_at, number_token, symbol_token, single_symbol, double_symbol, closed_token}
use Rattle.til_lexer.specs.Spans.{is_space, begins_comment, digits_at, digits_after_point, until_mark}
use Rattle.til_lexer.specs.Words.{starts_word, word_of}
use Rattle.tydi_base.specs.Name.{has_name_form}
use Rattle.til_lexer.proofs.CutLemmas.{EndsInAscii, CanCut, ends_past, ends_cut, space_cut, line_cut, digits_end, number_ends}

abbrev pub Found : Type 0
Found = Result Piece LexFault

-- both ways of a test
pub either : (P : Piece → Type 0) (test : Bool) (one other : Found) → (test ≡ true → IfOk one P) → (test ≡ false → IfOk other P) → IfOk (cond test one other) P
either P true one other then else_ = then refl
either P false one other then else_ = else_ refl

if_ok : (P Q : Piece → Type 0) (found : Found) → ((piece : Piece) → P piece → Q piece) → IfOk found P → IfOk found Q
if_ok P Q (Ok piece) further holds = further piece holds
if_ok P Q (Err fault) further holds = tt

-- ---- symbols

-- an ASCII byte after the control characters that texts have
abbrev pub Byte : ℕ → Type 0
Byte byte = (10 < byte) × (byte < 128)

choice : (byte symbol : ℕ) (kind : TokenKind) (rest : Option TokenKind) → Byte symbol → IfSome rest (λ _. Byte byte) → IfSome (cond (eqb byte symbol) (Some kind) rest) (λ _. Byte byte)
choice byte symbol kind rest ascii holds = by_cases (eqb byte symbol) refl
  where
    by_cases : (same : Bool) → eqb byte symbol ≡ same → IfSome (cond same (Some kind) rest) (λ _. Byte byte)
    by_cases true is = let same : byte ≡ symbol = grind (arith, nat_tests) in rw same ascii
    by_cases false is = holds

pub single_symbol-ascii : (byte : ℕ) → IfSome (single_symbol byte) (λ _. Byte byte)
unfolding single_symbol
single_symbol-ascii byte =
    choice byte 123 _ _ (omega arith, omega arith) (choice byte 125 _ _ (omega arith, omega arith) (choice byte 40 _ _ (omega arith, omega arith) (choice byte 41 _ _ (omega arith, omega arith)
    (choice byte 58 _ _ (omega arith, omega arith) (choice byte 59 _ _ (omega arith, omega arith) (choice byte 44 _ _ (omega arith, omega arith) (choice byte 61 _ _ (omega arith, omega arith)
    (choice byte 46 _ None (omega arith, omega arith) tt))))))))

pub double_symbol-ascii : (first second : ℕ) → IfSome (double_symbol first second) (λ _. Byte first × Byte second)
unfolding double_symbol
double_symbol-ascii first second = by_cases (eqb first 58 && eqb second 58) (eqb first 45 && eqb second 45) refl refl
  where
    by_cases : (colons dashes : Bool) → (eqb first 58 && eqb second 58) ≡ colons → (eqb first 45 && eqb second 45) ≡ dashes → IfSome (cond colons (Some kinds.DoubleColon) (cond dashes (Some kinds.DoubleDash) None)) (λ (_ : TokenKind). Byte first × Byte second)
    by_cases true dashes are is = ((grind (arith, nat_tests), grind (arith, nat_tests)), (grind (arith, nat_tests), grind (arith, nat_tests)))
    by_cases false true are is = ((grind (arith, nat_tests), grind (arith, nat_tests)), (grind (arith, nat_tests), grind (arith, nat_tests)))
    by_cases false false are is = tt

within_of : (bytes : List ℕ) (at : ℕ) → 0 < get_or bytes at 0 → at < length bytes
within_of [] at some = absurd (omega arith)
within_of (byte ∷ bytes) zero some = omega arith
within_of (byte ∷ bytes) (suc at) some = let within = within_of bytes at some in omega arith

byte_within : (bytes : List ℕ) (at : ℕ) → Byte (get_or bytes at 0) → EndsInAscii bytes (at + 1)
byte_within bytes at ascii =
    let within : at < length bytes = within_of bytes at (let more = ascii.0 in omega arith) in
    record { some = omega arith; within = omega arith; last = let place : at + 1 - 1 ≡ at = omega arith in rw place ascii.1 }

symbol_ends : (place : Place) (bytes : List ℕ) (double single : Option TokenKind) → IfSome double (λ _. Byte (get_or bytes 0 0) × Byte (get_or bytes 1 0)) → IfSome single (λ _. Byte (get_or bytes 0 0)) → IfOk (symbol_token place double single) (λ piece. EndsInAscii bytes (length_of piece))
unfolding symbol_token
symbol_ends place bytes (Some kind) single two one = byte_within bytes 1 two.1
symbol_ends place bytes None (Some kind) two one = byte_within bytes 0 one
symbol_ends place bytes None None two one = tt

-- ---- numbers, and what stands between two marks

pub number_token-ends : (place : Place) (bytes : List ℕ) (whole fraction : ℕ) → EndsInAscii bytes whole → (0 < fraction → EndsInAscii bytes (whole + 1 + fraction)) → IfOk (number_token place whole fraction) (λ piece. EndsInAscii bytes (length_of piece))
unfolding number_token
number_token-ends place bytes whole fraction before after = either _ (ltb 18 (whole + fraction)) _ _ (λ _. tt) (λ _. by_cases (eqb fraction 0) refl)
  where
    by_cases : (none : Bool) → eqb fraction 0 ≡ none → EndsInAscii bytes (cond none whole (whole + 1 + fraction))
    by_cases true is = before
    by_cases false is = after (grind (arith, nat_tests))

closed_ends : (kind : TokenKind) (fault : LexFault) (mark : ℕ) (bytes : List ℕ) → mark < 128 → get_or bytes 0 0 ≡ mark → 10 < mark → IfOk (closed_token kind fault (until_mark mark (drop 1 bytes))) (λ piece. EndsInAscii bytes (length_of piece))
unfolding closed_token
closed_ends kind fault mark [] ascii first some = absurd (omega arith)
closed_ends kind fault mark (byte ∷ bytes) ascii first some = by_cases (ltb (position_or_len (λ b. eqb b mark) bytes) (length bytes)) refl
  where
    by_cases : (found : Bool) → ltb (position_or_len (λ b. eqb b mark) bytes) (length bytes) ≡ found → IfOk (closed_token kind fault (cond found (Some (position_or_len (λ b. eqb b mark) bytes)) None)) (λ piece. EndsInAscii (byte ∷ bytes) (length_of piece))
    by_cases true is =
        let within : position_or_len (λ b. eqb b mark) bytes < length bytes = grind (arith, nat_tests) in
        let stops = prefix_len_stops (λ b. not (eqb b mark)) bytes 0 within in
        let last : get_or bytes (position_or_len (λ b. eqb b mark) bytes) 0 ≡ mark = grind (arith, nat_tests) in
        let ends : EndsInAscii bytes (position_or_len (λ b. eqb b mark) bytes + 1) = byte_within bytes (position_or_len (λ b. eqb b mark) bytes) (rw last (some, ascii)) in
        let order : 1 + (position_or_len (λ b. eqb b mark) bytes + 1) ≡ position_or_len (λ b. eqb b mark) bytes + 2 = omega arith in
        subst (λ count. EndsInAscii (byte ∷ bytes) count) order (ends_past (byte ∷ bytes) 1 (position_or_len (λ b. eqb b mark) bytes + 1) (omega arith) ends)
    by_cases false is = tt

mark_ends : (place : Place) (bytes : List ℕ) → IfOk (mark_at place bytes) (λ piece. EndsInAscii bytes (length_of piece))
unfolding mark_at
mark_ends place bytes =
    either _ (is_ascii_digit (get_or bytes 0 0)) _ _ (λ digit. number_token-ends place bytes (digits_at bytes) (digits_after_point (drop (digits_at bytes) bytes)) (digits_end bytes digit) (λ some. number_ends bytes (digits_at bytes) _ (digits_end bytes digit).within refl some))
    (λ _. either _ (eqb (get_or bytes 0 0) 34) _ _ (λ mark. closed_ends _ _ 34 bytes (omega arith) (grind (arith, nat_tests)) (omega arith))
    (λ _. either _ (eqb (get_or bytes 0 0) 35) _ _ (λ mark. closed_ends _ _ 35 bytes (omega arith) (grind (arith, nat_tests)) (omega arith))
    (λ _. symbol_ends place bytes _ _ (double_symbol-ascii (get_or bytes 0 0) (get_or bytes 1 0)) (single_symbol-ascii (get_or bytes 0 0)))))

-- ---- words

pub ascii_at : (word : List ℕ) (at : ℕ) → list_all is_ascii word ≡ true → get_or word at 0 < 128
ascii_at [] at all = omega arith
ascii_at (byte ∷ bytes) at all = by_cases (is_ascii byte) at refl all (ascii_at bytes)
  where
    by_cases : (ascii : Bool) (at : ℕ) → is_ascii byte ≡ ascii → (ascii && list_all is_ascii bytes) ≡ true → ((at : ℕ) → list_all is_ascii bytes ≡ true → get_or bytes at 0 < 128) → get_or (byte ∷ bytes) at 0 < 128
    by_cases true zero is all further = grind (arith, nat_tests)
    by_cases true (suc at) is all further = further at all
    by_cases false at is all further = absurd cc

front_ends : (word rest text : List ℕ) → text ≡ word ++ rest → 0 < length word → list_all is_ascii word ≡ true → EndsInAscii text (length word)
front_ends word rest text same some all =
    let last : get_or (word ++ rest) (length word - 1) 0 ≡ get_or word (length word - 1) 0 = get_or_append_left word rest 0 (length word - 1) (omega arith) in
    rw same (record { some = some; within = omega (arith, length-append word rest); last = rw last (ascii_at word (length word - 1) all) })

-- a word of ASCII is the front of its text
pub word_front : (text characters : List ℕ) → text ≡ encode_utf8_all characters → 0 < length text → list_all is_ascii (word_of characters) ≡ true → (rest : List ℕ) × (text ≡ word_of characters ++ rest)
unfolding word_of
word_front text [] same some all = absurd (omega (arith, ap length same))
word_front text (character ∷ characters) same some all =
    let whole : character ∷ characters ≡ (character ∷ take (prefix_len is_xid_continue characters) characters) ++ drop (prefix_len is_xid_continue characters) characters =
    ap (λ (l : List ℕ). character ∷ l) (sym (take-append-drop (prefix_len is_xid_continue characters) characters)) in
    let plain : encode_utf8_all (character ∷ take (prefix_len is_xid_continue characters) characters) ≡ character ∷ take (prefix_len is_xid_continue characters) characters =
    encodes-IsAscii (character ∷ take (prefix_len is_xid_continue characters) characters) (λ at. ascii_at (character ∷ take (prefix_len is_xid_continue characters) characters) at all) in (
      encode_utf8_all (drop (prefix_len is_xid_continue characters) characters),
      same ∙ ap encode_utf8_all whole ∙ encodes-append (character ∷ take (prefix_len is_xid_continue characters) characters) (drop (prefix_len is_xid_continue characters) characters)
          ∙ ap (λ (l : List ℕ). l ++ encode_utf8_all (drop (prefix_len is_xid_continue characters) characters)) plain,
    )

word_some : (text characters : List ℕ) → text ≡ encode_utf8_all characters → 0 < length text → 0 < length (word_of characters)
unfolding word_of
word_some text [] same some = absurd (omega (arith, ap length same))
word_some text (character ∷ characters) same some = omega arith

word_ends : (text characters : List ℕ) → text ≡ encode_utf8_all characters → 0 < length text → list_all is_ascii (word_of characters) ≡ true → EndsInAscii text (length (word_of characters))
word_ends text characters same some all =
    let front = word_front text characters same some all in
    front_ends (word_of characters) front.0 text front.1 (word_some text characters same some) all

word_cut : (place : Place) (text : List ℕ) → IsUtf8 text → 0 < length text → IfOk (word_token place (word_of (chars text))) (λ piece. CanCut text (length_of piece))
unfolding word_token
word_cut place text utf8 some =
    either _ (list_all is_ascii (word_of (chars text))) _ _
    (λ all. either _ (has_name_form (word_of (chars text))) _ _ (λ _. ends_cut text (length (word_of (chars text))) utf8 (word_ends text (chars text) (sym (encodes-chars text utf8)) some all)) (λ _. tt))
    (λ _. tt)

piece_cut : (place : Place) (text : List ℕ) → IsUtf8 text → 0 < length text → IfOk (piece_at place text) (λ piece. CanCut text (length_of piece))
unfolding piece_at
piece_cut place text utf8 some =
    either _ (is_space (get_or text 0 0)) _ _ (λ is. space_cut text utf8 some is)
    (λ _. either _ (begins_comment text) _ _ (λ is. line_cut text is)
    (λ _. either _ (starts_word (get_or (chars text) 0 0)) _ _ (λ is. word_cut place text utf8 some)
    (λ _. if_ok _ _ (mark_at place text) (λ piece ends. ends_cut text (length_of piece) utf8 ends) (mark_ends place text))))

pub found_cut : (place : Place) (bytes : List ℕ) (piece : Piece) → IsUtf8 bytes → 0 < length bytes → piece_at place bytes ≡ Ok piece → CanCut bytes (length_of piece)
found_cut place bytes piece utf8 some is = rw is at (piece_cut place bytes utf8 some)
