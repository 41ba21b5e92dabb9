-- A text with the form of a token, before a byte that does not go on with it, is the piece that is found.
use Rattle.std.proofs.Common.{◌≡◌, ℕ, suc, ◌+◌, ◌<◌, ◌≤◌, ◌⊎◌, inl, inr, Bool, true, false, ◌&&◌, ◌||◌, cond, eqb, ltb, List}
use Rattle.std.proofs.Common.{[], ◌∷◌, ◌++◌, length, take, drop, get_or, Some, Result, Ok, refl, sym, ap, ◌∙◌, subst, arith, append_assoc, length-append}
use Rattle.std.specs.Char.{is_ascii_alphabetic, is_ascii_digit}
use Rattle.std.specs.List.{list_all, position_or_len, prefix_len}
use Rattle.std.specs.Str.{IsUtf8, chars}
use Rattle.std.proofs.Math.Seq.{drop-append_seam, take-append_seam, get_or-append_seam}
use Rattle.std.proofs.lemmas.Bool.{ne_eqb}
use Rattle.std.proofs.lemmas.Bool.Decides.{nat_tests}
use Rattle.std.proofs.lemmas.List.{append-nil, get_or_append_left}
use Rattle.std.proofs.lemmas.List.Sums.{position_or_len_is}
use Rattle.std.proofs.lemmas.Str.{IsUtf8-append}
use Rattle.unicode_ident.proofs.IdentLemmas.{is_xid_continue-ascii}
use Rattle.tydi_base.specs.declared.place.Place.{Place}
use Rattle.tydi_base.specs.Name.{is_name_byte, has_name_form}
use Rattle.tydi_base.specs.Pieces.{Lacks}
use Rattle.til_lexer.specs.declared.fault.LexFault.{LexFault}
use Rattle.til_lexer.specs.declared.piece.Piece.{Piece}
use Rattle.til_lexer.specs.declared.piece.Piece.TheVariants as pieces
use Rattle.til_lexer.specs.declared.token.TokenKind.{TokenKind}
use Rattle.til_lexer.specs.declared.token.TokenKind.TheVariants as kinds
use Rattle.til_lexer.specs.Pieces.{piece_at, word_token, mark_at, number_at, number_token, symbol_token, single_symbol, double_symbol, closed_token}
use Rattle.til_lexer.specs.Spans.{is_space, begins_comment, digits_at, digits_after_point, until_mark}
use Rattle.til_lexer.specs.Spelling.{AreDigits, HasForm, IsBetween, IsPointNumber, IsWholeNumber, runs_on, goes_on}
use Rattle.til_lexer.specs.Words.{starts_word, word_of, continues}
use Rattle.til_lexer.proofs.FormBegins.{Begins, first_of_all, form_begins, form_utf8, name_bytes, name_letter}
use Rattle.til_lexer.proofs.WordLemmas.{chars-ascii, first_char, letter_starts, word-name}

abbrev Found : Type 0
Found = Result Piece LexFault

-- ---- how far bytes that pass a test reach

pub prefix_past : (p : ℕ → Bool) (front rest : List ℕ) → list_all p front ≡ true → prefix_len p (front ++ rest) ≡ length front + prefix_len p rest
prefix_past p [] rest all = omega arith
prefix_past p (byte ∷ front) rest all = by_cases (p byte) refl (prefix_past p front rest) all
  where
    by_cases : (passes : Bool) → p byte ≡ passes → (list_all p front ≡ true → prefix_len p (front ++ rest) ≡ length front + prefix_len p rest)
        → (passes && list_all p front) ≡ true → cond passes (1 + prefix_len p (front ++ rest)) 0 ≡ suc (length front) + prefix_len p rest
    by_cases true is further rest = let next = further rest in omega arith
    by_cases false is further rest = absurd cc

pub prefix_none : (p : ℕ → Bool) (rest : List ℕ) → p (get_or rest 0 0) ≡ false → prefix_len p rest ≡ 0
prefix_none p [] fails = refl
prefix_none p (byte ∷ bytes) fails = rw fails refl

pub prefix_up_to : (p : ℕ → Bool) (front rest : List ℕ) → list_all p front ≡ true → p (get_or rest 0 0) ≡ false
    → prefix_len p (front ++ rest) ≡ length front
prefix_up_to p front rest all fails = let none = prefix_none p rest fails in let past = prefix_past p front rest all in omega arith

-- ---- the byte after a token

-- a text in UTF-8 that begins with ASCII, or is empty, with which a token of this kind and text does not go on
pub record IsAfter (kind : TokenKind) (spelling rest : List ℕ) : Type 0 where
  pub utf8 : IsUtf8 rest
  pub ascii : get_or rest 0 0 < 128
  pub stops : goes_on kind spelling (get_or rest 0 0) ≡ false

pub first_of_front : (front rest : List ℕ) → 0 < length front → get_or (front ++ rest) 0 0 ≡ get_or front 0 0
first_of_front front rest some = get_or_append_left front rest 0 0 some

-- ---- which piece stands at the front

no_comment : (text : List ℕ) → eqb (get_or text 0 0) 47 ≡ false → begins_comment text ≡ false
no_comment text no_slash = rw no_slash refl

word_piece : (place : Place) (text : List ℕ) → is_space (get_or text 0 0) ≡ false → begins_comment text ≡ false
    → starts_word (get_or (chars text) 0 0) ≡ true → piece_at place text ≡ word_token place (word_of (chars text))
unfolding piece_at
word_piece place text no_space comment starts = rw (no_space, comment, starts) refl

mark_piece : (place : Place) (text : List ℕ) → is_space (get_or text 0 0) ≡ false → begins_comment text ≡ false
    → starts_word (get_or (chars text) 0 0) ≡ false → piece_at place text ≡ mark_at place text
unfolding piece_at
mark_piece place text no_space comment starts = rw (no_space, comment, starts) refl

-- a word of ASCII begins with this byte
abbrev starts_name : ℕ → Bool
starts_name byte = is_ascii_alphabetic byte || eqb byte 95

starts : (text : List ℕ) → IsUtf8 text → Begins text → starts_word (get_or (chars text) 0 0) ≡ starts_name (get_or text 0 0)
starts text utf8 begins = ap starts_word (first_char text utf8 begins.some begins.ascii) ∙ letter_starts (get_or text 0 0) begins.ascii

-- a text that begins as another does
begins_front : (front rest : List ℕ) → Begins front → Begins (front ++ rest)
begins_front front rest begins =
    let first = sym (first_of_front front rest begins.some) in
    record {
      some = let some = begins.some in omega (arith, length-append front rest);
      ascii = subst (λ byte. byte < 128) first begins.ascii;
      no_space = ap is_space (sym first) ∙ begins.no_space;
      no_slash = ap (λ byte. eqb byte 47) (sym first) ∙ begins.no_slash;
    }

-- a text that begins with no letter and no `_` is a mark, where it has a form
mark_found : (place : Place) (kind : TokenKind) (front rest : List ℕ) → HasForm kind front → IsAfter kind front rest
    → starts_name (get_or front 0 0) ≡ false → piece_at place (front ++ rest) ≡ mark_at place (front ++ rest)
mark_found place kind front rest form after letter =
    let begins = form_begins kind front form in
    let both = begins_front front rest begins in
    let utf8 = IsUtf8-append front rest (form_utf8 kind front form) after.utf8 in
    mark_piece place (front ++ rest) both.no_space (no_comment (front ++ rest) both.no_slash)
    (starts (front ++ rest) utf8 both ∙ ap starts_name (first_of_front front rest begins.some) ∙ letter)

-- ---- words

not_on : (rest : List ℕ) → IsUtf8 rest → get_or rest 0 0 < 128 → is_name_byte (get_or rest 0 0) ≡ false → continues (chars rest) ≡ false
unfolding chars
not_on [] utf8 ascii is_not = refl
not_on (byte ∷ bytes) utf8 ascii is_not = ap continues (chars-ascii byte bytes utf8 ascii) ∙ is_xid_continue-ascii byte ascii ∙ is_not

word_is : (place : Place) (word rest : List ℕ) → HasForm kinds.Word word → IsAfter kinds.Word word rest
    → piece_at place (word ++ rest) ≡ Ok (pieces.Token kinds.Word (length word))
word_is place word rest form after =
    let begins = form_begins kinds.Word word form in
    let both = begins_front word rest begins in
    let utf8 = IsUtf8-append word rest (form_utf8 kinds.Word word form) after.utf8 in
    let first = first_of_front word rest begins.some in
    let letter : is_ascii_alphabetic (get_or (word ++ rest) 0 0) ≡ true = ap is_ascii_alphabetic first ∙ name_letter word form in
    let starts_so : starts_word (get_or (chars (word ++ rest)) 0 0) ≡ true = starts (word ++ rest) utf8 both
    ∙ ap (λ b. b || eqb (get_or (word ++ rest) 0 0) 95) letter in
    let count : length word ≡ prefix_len is_name_byte (word ++ rest) = sym (prefix_up_to is_name_byte word rest (name_bytes word form) after.stops) in
    let ends : continues (chars (drop (length word) (word ++ rest))) ≡ false = ap (λ l. continues (chars l)) (drop-append_seam word rest)
    ∙ not_on rest after.utf8 after.ascii after.stops in
    let named : has_name_form (take (length word) (word ++ rest)) ≡ true = ap has_name_form (take-append_seam word rest) ∙ form in
    word_piece place (word ++ rest) both.no_space (no_comment (word ++ rest) both.no_slash) starts_so
    ∙ sym (word-name place (word ++ rest) (length word) utf8 count begins.some ends named)

-- ---- numbers

number_mark : (place : Place) (bytes : List ℕ) → is_ascii_digit (get_or bytes 0 0) ≡ true → mark_at place bytes ≡ number_at place bytes
unfolding mark_at
number_mark place bytes digit = rw digit refl

whole_token : (place : Place) (whole : ℕ) → whole ≤ 18 → number_token place whole 0 ≡ Ok (pieces.Token kinds.Number whole)
unfolding number_token
whole_token place whole few = let test : ltb 18 (whole + 0) ≡ false = grind (arith, nat_tests) in rw test refl

point_token : (place : Place) (whole fraction : ℕ) → 0 < fraction → whole + fraction ≤ 18
    → number_token place whole fraction ≡ Ok (pieces.Token kinds.Number (whole + 1 + fraction))
unfolding number_token
point_token place whole fraction some few =
    let test : ltb 18 (whole + fraction) ≡ false = grind (arith, nat_tests) in
    let more : eqb fraction 0 ≡ false = grind (arith, nat_tests) in
    rw (test, more) refl

first_digit : (digits rest : List ℕ) → AreDigits digits → is_ascii_digit (get_or (digits ++ rest) 0 0) ≡ true
first_digit [] rest are = absurd (let some = are.some in omega arith)
first_digit (byte ∷ bytes) rest are = first_of_all is_ascii_digit byte bytes are.each

no_point : (rest : List ℕ) → eqb (get_or rest 0 0) 46 ≡ false → digits_after_point rest ≡ 0
no_point [] fails = refl
no_point (byte ∷ bytes) fails = rw fails refl

-- a digit and a point go on with a number
number_stops : (byte : ℕ) → runs_on kinds.Number byte ≡ false → (is_ascii_digit byte ≡ false) × (eqb byte 46 ≡ false)
number_stops byte stops = by_cases (is_ascii_digit byte) (eqb byte 46) stops
  where
    by_cases : (digit point : Bool) → (digit || point) ≡ false → (digit ≡ false) × (point ≡ false)
    by_cases true point is = absurd cc
    by_cases false point is = (refl, is)

-- a byte that goes on with no token of a kind goes on with none of its texts
pub goes-less : (kind : TokenKind) (spelling : List ℕ) (byte : ℕ) → runs_on kind byte ≡ false → goes_on kind spelling byte ≡ false
goes-less kinds.Number spelling byte stops = let stop = number_stops byte stops in rw (stop.0, stop.1) (never (list_all is_ascii_digit spelling))
  where
    never : (b : Bool) → (b && false) ≡ false
    never true = refl
    never false = refl
goes-less kind spelling byte stops = stops

-- digits go on as any number does, and a number with a point with a digit alone
digits_stop : (digits : List ℕ) (byte : ℕ) → list_all is_ascii_digit digits ≡ true → goes_on kinds.Number digits byte ≡ false → runs_on kinds.Number byte ≡ false
digits_stop digits byte each stops = subst (λ b. (is_ascii_digit byte || (b && eqb byte 46)) ≡ false) each stops

no_digit : (number : List ℕ) (byte : ℕ) → goes_on kinds.Number number byte ≡ false → is_ascii_digit byte ≡ false
no_digit number byte stops = by_cases (is_ascii_digit byte) (list_all is_ascii_digit number && eqb byte 46) stops
  where
    by_cases : (digit point : Bool) → (digit || point) ≡ false → digit ≡ false
    by_cases true point is = absurd cc
    by_cases false point is = refl

whole_is : (place : Place) (whole rest : List ℕ) → IsWholeNumber whole → runs_on kinds.Number (get_or rest 0 0) ≡ false
    → mark_at place (whole ++ rest) ≡ Ok (pieces.Token kinds.Number (length whole))
whole_is place whole rest is stops =
    let stop = number_stops (get_or rest 0 0) stops in
    let digits : digits_at (whole ++ rest) ≡ length whole = prefix_up_to is_ascii_digit whole rest is.digits.each stop.0 in
    let fraction : digits_after_point (drop (digits_at (whole ++ rest)) (whole ++ rest)) ≡ 0 =
    ap (λ n. digits_after_point (drop n (whole ++ rest))) digits ∙ ap digits_after_point (drop-append_seam whole rest) ∙ no_point rest stop.1 in
    number_mark place (whole ++ rest) (first_digit whole rest is.digits)
    ∙ ap (λ n. number_token place n (digits_after_point (drop (digits_at (whole ++ rest)) (whole ++ rest)))) digits
    ∙ ap (number_token place (length whole)) fraction ∙ whole_token place (length whole) is.few

point_is : (place : Place) (before behind rest : List ℕ) → AreDigits before → AreDigits behind → length before + length behind ≤ 18
    → is_ascii_digit (get_or rest 0 0) ≡ false
    → mark_at place (before ++ (46 ∷ behind ++ rest)) ≡ Ok (pieces.Token kinds.Number (length before + 1 + length behind))
point_is place before behind rest are_before are_behind few stops =
    let text : List ℕ = before ++ (46 ∷ behind ++ rest) in
    let digits : digits_at text ≡ length before = prefix_up_to is_ascii_digit before (46 ∷ behind ++ rest) are_before.each refl in
    let fraction : digits_after_point (drop (digits_at text) text) ≡ length behind =
    ap (λ n. digits_after_point (drop n text)) digits ∙ ap digits_after_point (drop-append_seam before (46 ∷ behind ++ rest))
    ∙ prefix_up_to is_ascii_digit behind rest are_behind.each stops in
    number_mark place text (first_digit before (46 ∷ behind ++ rest) are_before)
    ∙ ap (λ n. number_token place n (digits_after_point (drop (digits_at text) text))) digits ∙ ap (number_token place (length before)) fraction
    ∙ point_token place (length before) (length behind) are_behind.some few

point_number_is : (place : Place) (text rest : List ℕ) → IsPointNumber text → is_ascii_digit (get_or rest 0 0) ≡ false
    → mark_at place (text ++ rest) ≡ Ok (pieces.Token kinds.Number (length text))
point_number_is place text rest is stops =
    let flat : text ++ rest ≡ is.before ++ (46 ∷ is.behind ++ rest) = ap (λ l. l ++ rest) is.parts ∙ append_assoc is.before (46 ∷ is.behind) rest in
    let size : length is.before + 1 + length is.behind ≡ length text = omega (arith, ap length is.parts, length-append is.before (46 ∷ is.behind)) in
    ap (mark_at place) flat ∙ point_is place is.before is.behind rest is.digits_before is.digits_behind is.few stops
    ∙ ap (λ n. Ok (pieces.Token kinds.Number n)) size

-- ---- the text between two marks

until-inside : (mark : ℕ) (inside rest : List ℕ) → Lacks mark inside → until_mark mark (inside ++ mark ∷ rest) ≡ Some (length inside)
until-inside mark inside rest lacks =
    let place : position_or_len (λ byte. eqb byte mark) (inside ++ mark ∷ rest) ≡ length inside =
    position_or_len_is (λ byte. eqb byte mark) (inside ++ mark ∷ rest) (length inside) 0 (omega (arith, length-append inside (mark ∷ rest))) before (λ _. at_mark) in
    let within : ltb (length inside) (length (inside ++ mark ∷ rest)) ≡ true = let size = length-append inside (mark ∷ rest) in let less : length inside < length (inside ++ mark ∷ rest) = omega arith in grind (arith, nat_tests) in
    rw (place, within) refl
  where
    at_mark : eqb (get_or (inside ++ mark ∷ rest) (length inside) 0) mark ≡ true
    at_mark = let same = get_or-append_seam inside mark rest 0 in grind (arith, nat_tests)

    before : (k : ℕ) → k < length inside → eqb (get_or (inside ++ mark ∷ rest) k 0) mark ≡ false
    before k within =
        ap (λ byte. eqb byte mark) (get_or_append_left inside (mark ∷ rest) 0 k within)
        ∙ ne_eqb (get_or inside k 0) mark (lacks k 0 within)

closed_is : (kind : TokenKind) (fault : LexFault) (mark : ℕ) (text rest : List ℕ) → IsBetween mark text
    → closed_token kind fault (until_mark mark (drop 1 (text ++ rest))) ≡ Ok (pieces.Token kind (length text))
unfolding closed_token
closed_is kind fault mark text rest is =
    let flat : drop 1 (text ++ rest) ≡ is.inside ++ mark ∷ rest = ap (λ l. drop 1 (l ++ rest)) is.marked ∙ append_assoc is.inside (mark ∷ []) rest in
    let size : length is.inside + 2 ≡ length text = omega (arith, ap length is.marked, length-append is.inside (mark ∷ [])) in
    ap (λ l. closed_token kind fault (until_mark mark l)) flat ∙ ap (closed_token kind fault) (until-inside mark is.inside rest is.lacks)
    ∙ ap (λ n. Ok (pieces.Token kind n)) size

quoted_is : (place : Place) (text rest : List ℕ) → IsBetween 34 text → mark_at place (text ++ rest) ≡ Ok (pieces.Token kinds.Quoted (length text))
unfolding mark_at
quoted_is place text rest is =
    let first : get_or (text ++ rest) 0 0 ≡ 34 = ap (λ l. get_or (l ++ rest) 0 0) is.marked in
    rw first (closed_is kinds.Quoted _ 34 text rest is)

doc_is : (place : Place) (text rest : List ℕ) → IsBetween 35 text → mark_at place (text ++ rest) ≡ Ok (pieces.Token kinds.Doc (length text))
unfolding mark_at
doc_is place text rest is =
    let first : get_or (text ++ rest) 0 0 ≡ 35 = ap (λ l. get_or (l ++ rest) 0 0) is.marked in
    rw first (closed_is kinds.Doc _ 35 text rest is)

-- ---- symbols

-- the symbol that a text is, before another
symbol_is : (place : Place) (kind : TokenKind) (text codes rest : List ℕ) → text ≡ codes
    → mark_at place (codes ++ rest) ≡ Ok (pieces.Token kind (length codes)) → mark_at place (text ++ rest) ≡ Ok (pieces.Token kind (length text))
symbol_is place kind text codes rest same is = subst (λ l. mark_at place (l ++ rest) ≡ Ok (pieces.Token kind (length l))) (sym same) is

colon_is : (place : Place) (rest : List ℕ) → eqb (get_or rest 0 0) 58 ≡ false → mark_at place (58 ∷ rest) ≡ Ok (pieces.Token kinds.Colon 1)
unfolding mark_at symbol_token double_symbol single_symbol
colon_is place rest stops = rw stops refl

mark_is : (place : Place) (kind : TokenKind) (text rest : List ℕ) → HasForm kind text → starts_name (get_or text 0 0) ≡ false
    → goes_on kind text (get_or rest 0 0) ≡ false → mark_at place (text ++ rest) ≡ Ok (pieces.Token kind (length text))
unfolding mark_at symbol_token double_symbol single_symbol
mark_is place kinds.Word text rest form letter stops = let named = name_letter text form in absurd (grind (arith, nat_tests))
mark_is place kinds.Number text rest (inl whole) letter stops = whole_is place text rest whole (digits_stop text (get_or rest 0 0) whole.digits.each stops)
mark_is place kinds.Number text rest (inr point) letter stops = point_number_is place text rest point (no_digit text (get_or rest 0 0) stops)
mark_is place kinds.Quoted text rest form letter stops = quoted_is place text rest form
mark_is place kinds.Doc text rest form letter stops = doc_is place text rest form
mark_is place kinds.OpenBrace text rest form letter stops = symbol_is place kinds.OpenBrace text _ rest form refl
mark_is place kinds.CloseBrace text rest form letter stops = symbol_is place kinds.CloseBrace text _ rest form refl
mark_is place kinds.OpenParen text rest form letter stops = symbol_is place kinds.OpenParen text _ rest form refl
mark_is place kinds.CloseParen text rest form letter stops = symbol_is place kinds.CloseParen text _ rest form refl
mark_is place kinds.Colon text rest form letter stops = symbol_is place kinds.Colon text _ rest form (colon_is place rest stops)
mark_is place kinds.DoubleColon text rest form letter stops = symbol_is place kinds.DoubleColon text _ rest form refl
mark_is place kinds.Semicolon text rest form letter stops = symbol_is place kinds.Semicolon text _ rest form refl
mark_is place kinds.Comma text rest form letter stops = symbol_is place kinds.Comma text _ rest form refl
mark_is place kinds.Equals text rest form letter stops = symbol_is place kinds.Equals text _ rest form refl
mark_is place kinds.Point text rest form letter stops = symbol_is place kinds.Point text _ rest form refl
mark_is place kinds.DoubleDash text rest form letter stops = symbol_is place kinds.DoubleDash text _ rest form refl

-- ---- any token

digit_starts : (digits rest : List ℕ) → AreDigits digits → starts_name (get_or (digits ++ rest) 0 0) ≡ false
digit_starts digits rest are = let digit = first_digit digits rest are in grind (arith, nat_tests)

-- only a word begins with a letter or `_`
word_or_mark : (kind : TokenKind) (text : List ℕ) → HasForm kind text → (kind ≡ kinds.Word) ⊎ (starts_name (get_or text 0 0) ≡ false)
word_or_mark kinds.Word text form = inl refl
word_or_mark kinds.Number text (inl whole) = inr (subst (λ l. starts_name (get_or l 0 0) ≡ false) (append-nil text) (digit_starts text [] whole.digits))
word_or_mark kinds.Number text (inr point) = inr (subst (λ l. starts_name (get_or l 0 0) ≡ false) (sym point.parts) (digit_starts point.before (46 ∷ point.behind) point.digits_before))
word_or_mark kinds.Quoted text form = inr (ap (λ l. starts_name (get_or l 0 0)) form.marked)
word_or_mark kinds.Doc text form = inr (ap (λ l. starts_name (get_or l 0 0)) form.marked)
word_or_mark kinds.OpenBrace text form = inr (ap (λ l. starts_name (get_or l 0 0)) form)
word_or_mark kinds.CloseBrace text form = inr (ap (λ l. starts_name (get_or l 0 0)) form)
word_or_mark kinds.OpenParen text form = inr (ap (λ l. starts_name (get_or l 0 0)) form)
word_or_mark kinds.CloseParen text form = inr (ap (λ l. starts_name (get_or l 0 0)) form)
word_or_mark kinds.Colon text form = inr (ap (λ l. starts_name (get_or l 0 0)) form)
word_or_mark kinds.DoubleColon text form = inr (ap (λ l. starts_name (get_or l 0 0)) form)
word_or_mark kinds.Semicolon text form = inr (ap (λ l. starts_name (get_or l 0 0)) form)
word_or_mark kinds.Comma text form = inr (ap (λ l. starts_name (get_or l 0 0)) form)
word_or_mark kinds.Equals text form = inr (ap (λ l. starts_name (get_or l 0 0)) form)
word_or_mark kinds.Point text form = inr (ap (λ l. starts_name (get_or l 0 0)) form)
word_or_mark kinds.DoubleDash text form = inr (ap (λ l. starts_name (get_or l 0 0)) form)

pub piece_is : (place : Place) (kind : TokenKind) (text rest : List ℕ) → HasForm kind text → IsAfter kind text rest
    → piece_at place (text ++ rest) ≡ Ok (pieces.Token kind (length text))
piece_is place kind text rest form after = either_way (word_or_mark kind text form)
  where
    either_way : (kind ≡ kinds.Word) ⊎ (starts_name (get_or text 0 0) ≡ false) → piece_at place (text ++ rest) ≡ Ok (pieces.Token kind (length text))
    either_way (inl same) =
        let word = word_is place text rest (subst (λ k. HasForm k text) same form) (subst (λ k. IsAfter k text rest) same after) in
        word ∙ ap (λ k. Ok (pieces.Token k (length text))) (sym same)
    either_way (inr letter) = mark_found place kind text rest form after letter ∙ mark_is place kind text rest form letter after.stops
