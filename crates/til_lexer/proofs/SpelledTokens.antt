-- Tokens that are spelled one after another are read as these tokens.
use Rattle.std.proofs.Common.{◌≡◌, ℕ, ◌+◌, ◌-◌, ◌<◌, true, false, List, [], ◌∷◌, ◌++◌, length}
use Rattle.std.proofs.Common.{take, drop, map, get_or, Ok, refl, sym, ap, ◌∙◌, subst, arith, append_assoc, length-append}
use Rattle.std.specs.List.{list_all}
use Rattle.std.specs.Str.{IsUtf8}
use Rattle.std.proofs.Math.Seq.{drop-append_seam, take-append_seam}
use Rattle.std.proofs.lemmas.Bool.Decides.{nat_tests}
use Rattle.std.proofs.lemmas.Str.{IsUtf8-append, IsUtf8-nil}
use Rattle.tydi_base.specs.declared.place.Place.{Place}
use Rattle.til_lexer.specs.declared.piece.Piece.TheVariants as found
use Rattle.til_lexer.specs.declared.token.Token.{Token}
use Rattle.til_lexer.specs.declared.token.TokenKind.{TokenKind}
use Rattle.til_lexer.specs.declared.token.TokenKind.TheVariants as kinds
use Rattle.til_lexer.specs.Pieces.{piece_at}
use Rattle.til_lexer.specs.Places.{start, place_past}
use Rattle.til_lexer.specs.Spans.{is_space, space_length}
use Rattle.til_lexer.specs.Spelling.{AreSpelled, HasForm, IsApart, IsSpelled, Spelled, SpelledTokensAreRead, SpellingsAreTheirTexts, own_text, runs_on, goes_on, spelled_text, token_spelled, tokens_spelled}
use Rattle.til_lexer.specs.Tokens.{tokens_from, tokens_in, tokens_of, with_front}
use Rattle.til_lexer.proofs.CutLemmas.{is_space-ascii}
use Rattle.til_lexer.proofs.FormBegins.{ascii_utf8, first_of_all, form_begins, form_utf8}
use Rattle.til_lexer.proofs.LexLemmas.{tokens_from-piece, with_front-nil}
use Rattle.til_lexer.proofs.PlaceLemmas.{offset_past, place_past-append}
use Rattle.til_lexer.proofs.SpelledPieces.{IsAfter, first_of_front, goes-less, piece_is, prefix_up_to}
use Rattle.til_lexer.proofs.WordLemmas.{all_ascii}

-- ---- a token, and white space, at the front of a text

token_step : (place : Place) (kind : TokenKind) (front rest : List ℕ) → HasForm kind front → IsAfter kind front rest
    → tokens_from 0 place (front ++ rest) ≡ with_front (tokens_in place (found.Token kind (length front))) (tokens_from 0 (place_past place front) rest)
token_step place kind front rest form after =
    let some = (form_begins kind front form).some in
    let next : List Token = tokens_in place (found.Token kind (length front)) in
    tokens_from-piece place (front ++ rest) (found.Token kind (length front)) (omega (arith, length-append front rest)) (sym (piece_is place kind front rest form after)) some
    ∙ ap (λ (l : List ℕ). with_front next (tokens_from 0 (place_past place l) (drop (length front) (front ++ rest)))) (take-append_seam front rest)
    ∙ ap (λ (l : List ℕ). with_front next (tokens_from 0 (place_past place front) l)) (drop-append_seam front rest)

space_piece : (place : Place) (text : List ℕ) → is_space (get_or text 0 0) ≡ true → piece_at place text ≡ Ok (found.Blank (space_length text))
unfolding piece_at
space_piece place text is = rw is refl

gap_step : (place : Place) (gap rest : List ℕ) → list_all is_space gap ≡ true → is_space (get_or rest 0 0) ≡ false
    → tokens_from 0 place (gap ++ rest) ≡ tokens_from 0 (place_past place gap) rest
gap_step place [] rest all fails = refl
gap_step place (byte ∷ gap) rest all fails =
    let front : List ℕ = byte ∷ gap in
    let size : space_length (front ++ rest) ≡ length front = prefix_up_to is_space front rest all fails in
    let is : piece_at place (front ++ rest) ≡ Ok (found.Blank (length front)) = space_piece place (front ++ rest) (first_of_all is_space byte gap all) ∙ ap (λ n. Ok (found.Blank n)) size in
    tokens_from-piece place (front ++ rest) (found.Blank (length front)) (omega arith) (sym is) (omega arith)
    ∙ with_front-nil _
    ∙ ap (λ (l : List ℕ). tokens_from 0 (place_past place l) (drop (length front) (front ++ rest))) (take-append_seam front rest)
    ∙ ap (λ (l : List ℕ). tokens_from 0 (place_past place front) l) (drop-append_seam front rest)

-- ---- the text after a token

-- no token goes on at the end of a text, nor with white space
ends_anywhere : (kind : TokenKind) → runs_on kind 0 ≡ false
ends_anywhere kinds.Word = refl
ends_anywhere kinds.Number = refl
ends_anywhere kinds.Quoted = refl
ends_anywhere kinds.Doc = refl
ends_anywhere kinds.OpenBrace = refl
ends_anywhere kinds.CloseBrace = refl
ends_anywhere kinds.OpenParen = refl
ends_anywhere kinds.CloseParen = refl
ends_anywhere kinds.Colon = refl
ends_anywhere kinds.DoubleColon = refl
ends_anywhere kinds.Semicolon = refl
ends_anywhere kinds.Comma = refl
ends_anywhere kinds.Equals = refl
ends_anywhere kinds.Point = refl
ends_anywhere kinds.DoubleDash = refl

space_stops : (kind : TokenKind) (byte : ℕ) → is_space byte ≡ true → runs_on kind byte ≡ false
space_stops kinds.Word byte is = grind (arith, nat_tests)
space_stops kinds.Number byte is = grind (arith, nat_tests)
space_stops kinds.Quoted byte is = refl
space_stops kinds.Doc byte is = refl
space_stops kinds.OpenBrace byte is = refl
space_stops kinds.CloseBrace byte is = refl
space_stops kinds.OpenParen byte is = refl
space_stops kinds.CloseParen byte is = refl
space_stops kinds.Colon byte is = grind (arith, nat_tests)
space_stops kinds.DoubleColon byte is = refl
space_stops kinds.Semicolon byte is = refl
space_stops kinds.Comma byte is = refl
space_stops kinds.Equals byte is = refl
space_stops kinds.Point byte is = refl
space_stops kinds.DoubleDash byte is = refl

-- how a text of tokens begins: with ASCII that is no white space, or it is empty
pub record Opens (text : List ℕ) : Type 0 where
  pub utf8 : IsUtf8 text
  pub ascii : get_or text 0 0 < 128
  pub no_space : is_space (get_or text 0 0) ≡ false

pub gap_utf8 : (gap : List ℕ) → list_all is_space gap ≡ true → IsUtf8 gap
gap_utf8 gap all = ascii_utf8 gap (all_ascii is_space is_space-ascii gap all)

-- the first byte of the text of tokens is that of the first token
pub first_spelled : (piece : Spelled) (pieces : List Spelled) → IsSpelled piece → get_or (spelled_text (piece ∷ pieces)) 0 0 ≡ get_or piece.spelling 0 0
first_spelled piece pieces is =
    let some = (form_begins piece.kind piece.spelling is.form).some in
    first_of_front (piece.spelling ++ piece.gap) (spelled_text pieces) (omega (arith, length-append piece.spelling piece.gap))
    ∙ first_of_front piece.spelling piece.gap some

pub opens : (pieces : List Spelled) → AreSpelled pieces → Opens (spelled_text pieces)
opens [] are = record { utf8 = IsUtf8-nil; ascii = omega arith; no_space = refl }
opens (piece ∷ pieces) are =
    let is = are.0 in
    let begins = form_begins piece.kind piece.spelling is.form in
    let first = sym (first_spelled piece pieces is) in
    record {
      utf8 = IsUtf8-append (piece.spelling ++ piece.gap) (spelled_text pieces) (IsUtf8-append piece.spelling piece.gap (form_utf8 piece.kind piece.spelling is.form) (gap_utf8 piece.gap is.space)) (opens pieces are.2).utf8;
      ascii = subst (λ byte. byte < 128) first begins.ascii;
      no_space = ap is_space (sym first) ∙ begins.no_space;
    }

-- the byte after a token does not go on with it
next_stops : (gap : List ℕ) (piece : Spelled) (pieces : List Spelled) → piece.gap ≡ gap → list_all is_space gap ≡ true → IsApart piece pieces → AreSpelled pieces
    → goes_on piece.kind piece.spelling (get_or (gap ++ spelled_text pieces) 0 0) ≡ false
next_stops (byte ∷ gap) piece pieces is_gap all apart are =
    goes-less piece.kind piece.spelling byte (space_stops piece.kind byte (first_of_all is_space byte gap all))
next_stops [] piece [] is_gap all apart are = goes-less piece.kind piece.spelling 0 (ends_anywhere piece.kind)
next_stops [] piece (next ∷ pieces) is_gap all apart are = ap (goes_on piece.kind piece.spelling) (first_spelled next pieces are.0) ∙ apart is_gap

next_ascii : (gap rest : List ℕ) → list_all is_space gap ≡ true → get_or rest 0 0 < 128 → get_or (gap ++ rest) 0 0 < 128
next_ascii [] rest all ascii = ascii
next_ascii (byte ∷ gap) rest all ascii = is_space-ascii byte (first_of_all is_space byte gap all)

after : (piece : Spelled) (pieces : List Spelled) → AreSpelled (piece ∷ pieces) → IsAfter piece.kind piece.spelling (piece.gap ++ spelled_text pieces)
after piece pieces are =
    let rest = opens pieces are.2 in
    record {
      utf8 = IsUtf8-append piece.gap (spelled_text pieces) (gap_utf8 piece.gap are.0.space) rest.utf8;
      ascii = next_ascii piece.gap (spelled_text pieces) are.0.space rest.ascii;
      stops = next_stops piece.gap piece pieces refl are.0.space are.1 are.2;
    }

-- ---- the law

read : (place : Place) (pieces : List Spelled) → AreSpelled pieces → tokens_from 0 place (spelled_text pieces) ≡ Ok (tokens_spelled place pieces)
unfolding with_front
read place [] are = refl
read place (piece ∷ pieces) are =
    let rest = opens pieces are.2 in
    let token : List Token = tokens_in place (found.Token piece.kind (length piece.spelling)) in
    let next : Place = place_past place (piece.spelling ++ piece.gap) in
    ap (tokens_from 0 place) (append_assoc piece.spelling piece.gap (spelled_text pieces))
    ∙ token_step place piece.kind piece.spelling (piece.gap ++ spelled_text pieces) are.0.form (after piece pieces are)
    ∙ ap (with_front token) (gap_step (place_past place piece.spelling) piece.gap (spelled_text pieces) are.0.space rest.no_space
    ∙ ap (λ (p : Place). tokens_from 0 p (spelled_text pieces)) (sym (place_past-append place piece.spelling piece.gap)) ∙ read next pieces are.2)

pub spelled_tokens-read : SpelledTokensAreRead
spelled_tokens-read pieces are = read start pieces are

-- so they are behind white space
pub spelled_behind-read : (gap : List ℕ) (pieces : List Spelled) → list_all is_space gap ≡ true → AreSpelled pieces
    → tokens_of (gap ++ spelled_text pieces) ≡ Ok (tokens_spelled (place_past start gap) pieces)
spelled_behind-read gap pieces space are = gap_step start gap (spelled_text pieces) space (opens pieces are).no_space ∙ read (place_past start gap) pieces are

-- ---- the text of each token

-- the values made of the kind, the text and the place of each token that is spelled
abbrev pub made_of : {A : Type 0} → (TokenKind → List ℕ → Place → A) → Place → List Spelled → List A
made_of make place [] = []
made_of make place (piece ∷ pieces) = make piece.kind piece.spelling place ∷ made_of make (place_past place (piece.spelling ++ piece.gap)) pieces

own-spelled : (place : Place) (piece : Spelled) (front rest : List ℕ) → place.offset ≡ length front
    → own_text (front ++ ((piece.spelling ++ piece.gap) ++ rest)) (token_spelled place piece) ≡ piece.spelling
own-spelled place piece front rest offset =
    let size : place.offset + length piece.spelling - place.offset ≡ length piece.spelling = omega arith in
    let flat : (piece.spelling ++ piece.gap) ++ rest ≡ piece.spelling ++ (piece.gap ++ rest) = append_assoc piece.spelling piece.gap rest in
    let text : List ℕ = front ++ ((piece.spelling ++ piece.gap) ++ rest) in
    ap (λ n. take n (drop place.offset text)) size ∙ ap (λ n. take (length piece.spelling) (drop n text)) offset
    ∙ ap (take (length piece.spelling)) (drop-append_seam front _)
    ∙ ap (take (length piece.spelling)) flat ∙ take-append_seam piece.spelling (piece.gap ++ rest)

made_from : {A : Type 0} (make : TokenKind → List ℕ → Place → A) (text front : List ℕ) (place : Place) (pieces : List Spelled)
    → text ≡ front ++ spelled_text pieces → place.offset ≡ length front
    → map (λ (token : Token). make token.kind (own_text text token) token.place) (tokens_spelled place pieces) ≡ made_of make place pieces
made_from make text front place [] whole offset = refl
made_from make text front place (piece ∷ pieces) whole offset =
    let own : own_text text (token_spelled place piece) ≡ piece.spelling = ap (λ l. own_text l (token_spelled place piece)) whole
    ∙ own-spelled place piece front (spelled_text pieces) offset in
    let bytes : List ℕ = piece.spelling ++ piece.gap in
    let moved : (place_past place bytes).offset ≡ length (front ++ bytes) = offset_past place bytes ∙ omega (arith, length-append front bytes) in
    let further = made_from make text (front ++ bytes) (place_past place bytes) pieces (whole ∙ sym (append_assoc front bytes (spelled_text pieces))) moved in
    ap (λ l. make piece.kind l place ∷ map (λ (token : Token). make token.kind (own_text text token) token.place) (tokens_spelled (place_past place bytes) pieces)) own
    ∙ ap (λ l. make piece.kind piece.spelling place ∷ l) further

-- the values made of each token that is spelled behind white space, from its kind, its own text and its place
pub map-tokens_spelled : {A : Type 0} (make : TokenKind → List ℕ → Place → A) (gap : List ℕ) (pieces : List Spelled)
    → map (λ (token : Token). make token.kind (own_text (gap ++ spelled_text pieces) token) token.place) (tokens_spelled (place_past start gap) pieces)
    ≡ made_of make (place_past start gap) pieces
map-tokens_spelled make gap pieces = made_from make (gap ++ spelled_text pieces) gap (place_past start gap) pieces refl (offset_past start gap ∙ omega arith)

made_of-spellings : (place : Place) (pieces : List Spelled)
    → made_of (λ kind text _. text) place pieces ≡ map (λ (piece : Spelled). piece.spelling) pieces
made_of-spellings place [] = refl
made_of-spellings place (piece ∷ pieces) = ap (λ l. piece.spelling ∷ l) (made_of-spellings (place_past place (piece.spelling ++ piece.gap)) pieces)

pub own_text-spelled : SpellingsAreTheirTexts
own_text-spelled pieces = map-tokens_spelled (λ kind text _. text) [] pieces ∙ made_of-spellings start pieces
