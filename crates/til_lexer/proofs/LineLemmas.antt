-- Which pieces stand in one line, and the place after a piece.
use Rattle.std.proofs.Common.{◌≡◌, ◌≢◌, ℕ, suc, ◌+◌, ◌-◌, ◌<◌, ◌≤◌, inl, inr, Bool, true, false, not, true≢false, ◌&&◌, cond, eqb, ltb, List, [], ◌∷◌, length, take, drop, get_or}
use Rattle.std.proofs.Common.{Option, Some, None, Ok, Err, IfOk, IfSome, length-append, refl, sym, ap, ◌∙◌, subst, arith}
use Rattle.std.specs.Char.{is_ascii, is_ascii_digit}
use Rattle.std.specs.List.{list_all, position_or_len}
use Rattle.std.proofs.lemmas.Option.{none-some}
use Rattle.std.specs.Str.{IsUtf8, chars}
use Rattle.std.proofs.lemmas.Bool.Decides.{nat_tests}
use Rattle.std.proofs.lemmas.List.{length-take-le, take_all}
use Rattle.std.proofs.Math.Seq.{take-append_seam}
use Rattle.std.proofs.lemmas.List.Elements.{All-append, All-cons, All-nil, All-from_get_or, All-get_or}
use Rattle.std.proofs.lemmas.List.Sums.{AllPass-from_list_all, passes_at_first, prefix_len-le-length}
use Rattle.std.proofs.lemmas.Str.{encodes-chars}
use Rattle.tydi_base.specs.declared.place.Place.{Place}
use Rattle.tydi_base.specs.Name.{is_name_byte, has_name_form}
use Rattle.tydi_base.specs.Pieces.{Lacks}
use Rattle.til_lexer.specs.declared.fault.LexFault.{LexFault}
use Rattle.til_lexer.specs.declared.fault.LexFault.TheVariants as faults
use Rattle.til_lexer.specs.declared.piece.Piece.{Piece}
use Rattle.til_lexer.specs.declared.piece.Piece.TheVariants as pieces
use Rattle.til_lexer.specs.declared.token.TokenKind.{TokenKind}
use Rattle.til_lexer.specs.declared.token.TokenKind.TheVariants as kinds
use Rattle.til_lexer.specs.Found.{along_line, found_at, placed}
use Rattle.til_lexer.specs.Pieces.{word_token, number_at, number_token, symbol_at, symbol_token, closed_token, mark_at, piece_at}
use Rattle.til_lexer.specs.Places.{along, place_after, place_past}
use Rattle.til_lexer.specs.declared.spans.Span.{Span}
use Rattle.til_lexer.specs.Spans.{IsMarked, IsSpan, begins_comment, digits_at, digits_after_point, is_space, line_length, space_length, until_mark}
use Rattle.til_lexer.specs.Spelling.{AreDigits, HasForm}
use Rattle.til_lexer.specs.Tokens.{length_of}
use Rattle.til_lexer.specs.Words.{starts_word, word_of}
use Rattle.til_lexer.proofs.FormLemmas.{Formed, lacks-before, number_form}
use Rattle.til_lexer.proofs.CutLemmas.{EndsInAscii, digits_end, number_ends}
use Rattle.til_lexer.proofs.PieceCuts.{Byte, Found, double_symbol-ascii, either, number_token-ends, single_symbol-ascii, word_front}
use Rattle.til_lexer.proofs.PlaceLemmas.{IsNear, after-along, near_past, offset_past, past-along, past-suc}

-- ---- bytes without an LF

-- bytes that pass a test which an LF does not pass
passes-line : (test : ℕ → Bool) → test 10 ≡ false → (bytes : List ℕ) → list_all test bytes ≡ true → Lacks 10 bytes
passes-line test none bytes all = All-from_get_or (λ b. b ≢ 10) bytes 0 (λ k within same.
    let passes = All-get_or (λ b. test b ≡ true) bytes k 0 within (AllPass-from_list_all test bytes all) in
    true≢false (sym passes ∙ ap test same ∙ none))

digits-line : (digits : List ℕ) → AreDigits digits → Lacks 10 digits
digits-line digits are = passes-line is_ascii_digit refl digits are.each

number-line : (text : List ℕ) → HasForm kinds.Number text → Lacks 10 text
number-line text (inl whole) = digits-line text whole.digits
number-line text (inr point) =
    rw point.parts (All-append (λ b. b ≢ 10) point.before (46 ∷ point.behind) (digits-line point.before point.digits_before)
    (All-cons (λ b. b ≢ 10) 46 point.behind (omega arith) (digits-line point.behind point.digits_behind)))

second : (a b c d : Bool) → (a && b && c && d) ≡ true → b ≡ true
second true true c d h = refl
second true false c d h = absurd cc
second false b c d h = absurd cc

name-line : (word : List ℕ) → has_name_form word ≡ true → Lacks 10 word
name-line word form = passes-line is_name_byte refl word (second _ (list_all is_name_byte word) _ _ form)

-- ---- pieces in one line

-- a piece at the front of a text has no LF
pub record InLine (bytes : List ℕ) (piece : Piece) : Type 0 where
  pub within : length_of piece ≤ length bytes
  pub lacks : Lacks 10 (take (length_of piece) bytes)

pub comment-in_line : (bytes : List ℕ) → InLine bytes (pieces.Blank (line_length bytes))
comment-in_line bytes = record {
  within = let most = prefix_len-le-length (λ byte. not (eqb byte 10)) bytes in omega arith;
  lacks = lacks-before 10 bytes;
}

pub word-in_line : (place : Place) (text : List ℕ) → IsUtf8 text → 0 < length text → IfOk (word_token place (word_of (chars text))) (InLine text)
unfolding word_token
word-in_line place text utf8 some =
    either (InLine text) (list_all is_ascii (word_of (chars text))) _ _
    (λ all. either (InLine text) (has_name_form (word_of (chars text))) _ _ (λ form. named all form) (λ _. tt))
    (λ _. tt)
  where
    named : list_all is_ascii (word_of (chars text)) ≡ true → has_name_form (word_of (chars text)) ≡ true → InLine text (pieces.Token kinds.Word (length (word_of (chars text))))
    named all form =
        let front = word_front text (chars text) (sym (encodes-chars text utf8)) some all in
        let size = ap length front.1 ∙ length-append (word_of (chars text)) front.0 in
        let word : take (length (word_of (chars text))) text ≡ word_of (chars text) = ap (take (length (word_of (chars text)))) front.1 ∙ take-append_seam (word_of (chars text)) front.0 in
        record { within = omega arith; lacks = subst (Lacks 10) (sym word) (name-line (word_of (chars text)) form) }

-- ---- numbers

abbrev IsNumber : Piece → Type 0
IsNumber piece = (count : ℕ) × (piece ≡ pieces.Token kinds.Number count)

is_number : (place : Place) (whole fraction : ℕ) → IfOk (number_token place whole fraction) IsNumber
unfolding number_token
is_number place whole fraction = either IsNumber (ltb 18 (whole + fraction)) _ _ (λ _. tt) (λ _. (_, refl))

number_piece : (bytes : List ℕ) (piece : Piece) → EndsInAscii bytes (length_of piece) → Formed bytes piece → IsNumber piece → InLine bytes piece
number_piece bytes (pieces.Blank count) ends form is = absurd (let clash = is.1 in cc)
number_piece bytes (pieces.Token kind count) ends form is =
    let number : kind ≡ kinds.Number = let same = is.1 in cc in
    record { within = ends.within; lacks = number-line (take count bytes) (subst (λ k. HasForm k (take count bytes)) number form) }

three : (P Q R S : Piece → Type 0) (found : Found) → ((piece : Piece) → P piece → Q piece → R piece → S piece) → IfOk found P → IfOk found Q → IfOk found R → IfOk found S
three P Q R S (Ok piece) further p q r = further piece p q r
three P Q R S (Err fault) further p q r = tt

pub number-in_line : (place : Place) (bytes : List ℕ) → is_ascii_digit (get_or bytes 0 0) ≡ true → IfOk (number_at place bytes) (InLine bytes)
number-in_line place bytes digit =
    let ends = digits_end bytes digit in
    three (λ piece. EndsInAscii bytes (length_of piece)) (Formed bytes) IsNumber (InLine bytes) (number_at place bytes) (number_piece bytes)
    (number_token-ends place bytes (digits_at bytes) (digits_after_point (drop (digits_at bytes) bytes)) ends (λ some. number_ends bytes (digits_at bytes) _ ends.within refl some))
    (number_form place bytes (digits_at bytes) (digits_after_point (drop (digits_at bytes) bytes)) refl ends.some refl)
    (is_number place (digits_at bytes) (digits_after_point (drop (digits_at bytes) bytes)))

-- ---- symbols

above : (byte : ℕ) → Byte byte → byte ≢ 10
above byte is same = let more = is.0 in omega arith

symbol_piece : (place : Place) (bytes : List ℕ) (double single : Option TokenKind) → 0 < length bytes
    → IfSome double (λ _. Byte (get_or bytes 0 0) × Byte (get_or bytes 1 0)) → IfSome single (λ _. Byte (get_or bytes 0 0)) → IfOk (symbol_token place double single) (InLine bytes)
unfolding symbol_token
symbol_piece place [] double single some two one = absurd (omega arith)
symbol_piece place (byte ∷ []) (Some kind) single some two one = absurd (let more = two.1.0 in omega arith)
symbol_piece place (byte ∷ next ∷ bytes) (Some kind) single some two one = record {
  within = omega arith;
  lacks = All-cons (λ b. b ≢ 10) byte (next ∷ []) (above byte two.0) (All-cons (λ b. b ≢ 10) next [] (above next two.1) (All-nil (λ b. b ≢ 10)));
}
symbol_piece place (byte ∷ bytes) None (Some kind) some two one = record {
  within = omega arith;
  lacks = All-cons (λ b. b ≢ 10) byte [] (above byte one) (All-nil (λ b. b ≢ 10));
}
symbol_piece place (byte ∷ bytes) None None some two one = tt

pub symbol-in_line : (place : Place) (bytes : List ℕ) → 0 < length bytes → IfOk (symbol_at place bytes) (InLine bytes)
symbol-in_line place bytes some =
    symbol_piece place bytes _ _ some (double_symbol-ascii (get_or bytes 0 0) (get_or bytes 1 0)) (single_symbol-ascii (get_or bytes 0 0))

-- ---- the place after a piece

-- after a piece in one line
pub placed-in_line : (place : Place) (bytes : List ℕ) (found : Found) → IfOk found (InLine bytes) → along_line place found ≡ placed place bytes found
placed-in_line place bytes (Ok piece) line =
    ap (λ (p : Place). Ok (piece, p)) (sym (past-along place (take (length_of piece) bytes) line.lacks ∙ ap (along place) (length-take-le (length_of piece) bytes line.within)))
placed-in_line place bytes (Err fault) line = refl

pub room-in_line : (offset most : ℕ) (bytes : List ℕ) (found : Found) → offset + length bytes < most → IfOk found (InLine bytes) → IfOk found (λ piece. offset + length_of piece < most)
room-in_line offset most bytes (Ok piece) room line = let within = line.within in omega arith
room-in_line offset most bytes (Err fault) room line = tt

-- a mark that is there
mark_there : (mark : ℕ) (bytes : List ℕ) (count : ℕ) → until_mark mark bytes ≡ Some count → (count < length bytes) × (get_or bytes count 0 ≡ mark)
mark_there mark bytes count is = by_cases (ltb (position_or_len (λ b. eqb b mark) bytes) (length bytes)) refl is
  where
    by_cases : (found : Bool) → ltb (position_or_len (λ b. eqb b mark) bytes) (length bytes) ≡ found → cond found (Some (position_or_len (λ b. eqb b mark) bytes)) None ≡ Some count
        → (count < length bytes) × (get_or bytes count 0 ≡ mark)
    by_cases true less is =
        let at : position_or_len (λ b. eqb b mark) bytes ≡ count = cc in
        let within : position_or_len (λ b. eqb b mark) bytes < length bytes = grind (arith, nat_tests) in
        let passes = passes_at_first (λ b. eqb b mark) bytes 0 within in
        (omega arith, rw (sym at) (grind (arith, nat_tests)))
    by_cases false less is = absurd (none-some count is)

-- after what stands between two marks
pub placed-closed : (kind : TokenKind) (fault : LexFault) (mark : ℕ) (place : Place) (after : List ℕ) (span : Span) → (mark ≡ 10 → ⊥) → IsMarked mark (along place 1) after span
    → Ok (pieces.Token kind (span.count + 2), along span.after 1) ≡ placed place (mark ∷ after) (closed_token kind fault (until_mark mark after))
unfolding closed_token
placed-closed kind fault mark place after span other is =
    let there = mark_there mark after span.count is.0 in
    let order : span.count + 2 ≡ suc (span.count + 1) = omega arith in
    let ends : along span.after 1 ≡ place_past place (take (span.count + 2) (mark ∷ after)) =
    sym (ap (λ n. place_past place (take n (mark ∷ after))) order
    ∙ ap (λ p. place_past p (take (span.count + 1) after)) (after-along place mark other)
    ∙ past-suc (along place 1) after span.count there.0
    ∙ ap (λ p. place_after p (get_or after span.count 0)) (sym is.1)
    ∙ after-along span.after (get_or after span.count 0) (λ same. other (sym there.1 ∙ same))) in
    rw is.0 (ap (λ (p : Place). Ok (pieces.Token kind (span.count + 2), p)) ends)

pub placed-open : (kind : TokenKind) (fault : LexFault) (mark : ℕ) (place : Place) (after : List ℕ) → until_mark mark after ≡ None
    → Err fault ≡ placed place (mark ∷ after) (closed_token kind fault (until_mark mark after))
unfolding closed_token
placed-open kind fault mark place after is = rw is refl

-- the text between two marks leaves room for the second one
pub marked-room : (mark : ℕ) (place : Place) (after : List ℕ) (span : Span) → IsMarked mark place after span → IsNear place → (span.after.offset < place.offset + length after) × IsNear span.after
marked-room mark place after span is near =
    let there = mark_there mark after span.count is.0 in
    let size = length-take-le span.count after (let less = there.0 in omega arith) in
    let offset = offset_past place (take span.count after) in
    let moved = near_past place (take span.count after) near in
    rw is.1 (let less = there.0 in omega arith, moved)

-- ---- numbers, quoted text, documentation and symbols

pub mark-number : (place : Place) (bytes : List ℕ) → true ≡ is_ascii_digit (get_or bytes 0 0) → mark_at place bytes ≡ number_at place bytes
unfolding mark_at
mark-number place bytes is = rw (sym is) refl

rest_all : (byte : ℕ) (bytes : List ℕ) → take (length (byte ∷ bytes) - 1) (drop 1 (byte ∷ bytes)) ≡ bytes
rest_all byte bytes = let order : suc (length bytes) - 1 ≡ length bytes = omega arith in ap (λ n. take n bytes) order ∙ take_all (length bytes) bytes (omega arith)

-- quoted text, after its mark
pub mark-quoted : (place : Place) (bytes : List ℕ) → get_or bytes 0 0 ≡ 34 → 0 < length bytes → (rest : List ℕ) → rest ≡ take (length bytes - 1) (drop 1 bytes)
    → placed place (34 ∷ rest) (closed_token kinds.Quoted (faults.OpenString place) (until_mark 34 rest)) ≡ placed place bytes (mark_at place bytes)
unfolding mark_at
mark-quoted place [] first some rest is = absurd (omega arith)
mark-quoted place (byte ∷ bytes) first some rest is =
    let same : rest ≡ bytes = is ∙ rest_all byte bytes in
    rw (same, first) refl

-- documentation, after its mark
pub mark-doc : (place : Place) (bytes : List ℕ) → get_or bytes 0 0 ≡ 35 → 0 < length bytes → (rest : List ℕ) → rest ≡ take (length bytes - 1) (drop 1 bytes)
    → placed place (35 ∷ rest) (closed_token kinds.Doc (faults.OpenDoc place) (until_mark 35 rest)) ≡ placed place bytes (mark_at place bytes)
unfolding mark_at
mark-doc place [] first some rest is = absurd (omega arith)
mark-doc place (byte ∷ bytes) first some rest is =
    let same : rest ≡ bytes = is ∙ rest_all byte bytes in
    rw (same, first) refl

pub mark-symbol : (place : Place) (bytes : List ℕ) → false ≡ is_ascii_digit (get_or bytes 0 0) → (get_or bytes 0 0 ≡ 34 → ⊥) → (get_or bytes 0 0 ≡ 35 → ⊥) → mark_at place bytes ≡ symbol_at place bytes
unfolding mark_at
mark-symbol place bytes other quoted doc =
    let first : eqb (get_or bytes 0 0) 34 ≡ false = grind (arith, nat_tests) in
    let next : eqb (get_or bytes 0 0) 35 ≡ false = grind (arith, nat_tests) in
    rw (sym other, first, next) refl

-- ---- the piece at the front of a text

pub found-space : (place : Place) (bytes text : List ℕ) (span : Span) → bytes ≡ text → true ≡ is_space (get_or bytes 0 0) → IsSpan place bytes (space_length bytes) span
    → Ok (pieces.Blank span.count, span.after) ≡ found_at place text
unfolding piece_at
found-space place bytes text span same is spans = rw (spans.1, spans.0, same) (rw (sym (rw same at is)) refl)

pub found-comment : (place : Place) (bytes text : List ℕ) → bytes ≡ text → false ≡ is_space (get_or bytes 0 0) → true ≡ begins_comment bytes
    → piece_at place text ≡ Ok (pieces.Blank (line_length bytes))
unfolding piece_at
found-comment place bytes text same other is = rw (sym same, sym other, sym is) refl

pub found-word : (place : Place) (bytes text : List ℕ) → bytes ≡ text → false ≡ is_space (get_or bytes 0 0) → false ≡ begins_comment bytes
    → true ≡ starts_word (get_or (chars text) 0 0) → piece_at place text ≡ word_token place (word_of (chars text))
unfolding piece_at
found-word place bytes text same other more is =
    let space : is_space (get_or text 0 0) ≡ false = ap (λ b. is_space (get_or b 0 0)) (sym same) ∙ sym other in
    let comment : begins_comment text ≡ false = ap begins_comment (sym same) ∙ sym more in
    rw (space, comment, sym is) refl

pub found-mark : (place : Place) (bytes text : List ℕ) → bytes ≡ text → false ≡ is_space (get_or bytes 0 0) → false ≡ begins_comment bytes
    → false ≡ starts_word (get_or (chars text) 0 0) → piece_at place text ≡ mark_at place text
unfolding piece_at
found-mark place bytes text same other more is =
    let space : is_space (get_or text 0 0) ≡ false = ap (λ b. is_space (get_or b 0 0)) (sym same) ∙ sym other in
    let comment : begins_comment text ≡ false = ap begins_comment (sym same) ∙ sym more in
    rw (space, comment, sym is) refl
