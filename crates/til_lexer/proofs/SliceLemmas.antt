-- Each token of a text is the piece that stands at its place.
use Rattle.std.proofs.Common.{◌≡◌, ℕ, zero, suc, ◌+◌, ◌-◌, ◌≤◌, List, [], ◌∷◌, ◌++◌, length, take, drop, Result, Ok, Err, All, append_assoc, length-append, refl, sym, ap, ◌∙◌, subst, arith}
use Rattle.std.proofs.Math.Seq.{drop-append_seam, take-append_seam}
use Rattle.std.proofs.lemmas.List.{length-take-le}
use Rattle.std.proofs.lemmas.List.Elements.{All-append, All-nil, All-cons}
use Rattle.std.proofs.lemmas.Str.{IsUtf8-drop, IsCharBoundary-from_rest, IsCharBoundary-start}
use Rattle.std.specs.Str.{IsUtf8, IsCharBoundary}
use Rattle.tydi_base.specs.declared.place.Place.{Place}
use Rattle.tydi_base.specs.Reading.{◌>>=◌}
use Rattle.til_lexer.specs.declared.fault.LexFault.{LexFault}
use Rattle.til_lexer.specs.declared.piece.Piece.{Piece}
use Rattle.til_lexer.specs.declared.piece.Piece.TheVariants as pieces
use Rattle.til_lexer.specs.declared.token.Token.{Token}
use Rattle.til_lexer.specs.declared.token.TokenKind.{TokenKind}
use Rattle.til_lexer.specs.Pieces.{piece_at}
use Rattle.til_lexer.specs.Places.{IsPlaceIn, start, place_after, place_past}
use Rattle.til_lexer.specs.Slices.{IsTokenOf, TokensAreOfTheText}
use Rattle.til_lexer.specs.Tokens.{length_of, with_front, tokens_in, tokens_from}
use Rattle.til_lexer.proofs.PieceCuts.{found_cut}
use Rattle.til_lexer.proofs.PlaceLemmas.{offset_past, place_past-append}
use Rattle.til_lexer.proofs.CutLemmas.{CanCut}

-- ---- a text that is passed up to a place

record At (text front bytes : List ℕ) (place : Place) : Type 0 where
  pub whole : text ≡ front ++ bytes
  pub place_is : place ≡ place_past start front

At-more : (text front : List ℕ) (byte : ℕ) (bytes : List ℕ) (place : Place) → At text front (byte ∷ bytes) place → At text (front ++ byte ∷ []) bytes (place_after place byte)
At-more text front byte bytes place at = record {
  whole = at.whole ∙ sym (append_assoc front (byte ∷ []) bytes);
  place_is = ap (λ (p : Place). place_after p byte) at.place_is ∙ sym (place_past-append start front (byte ∷ []));
}

At-offset : (text front bytes : List ℕ) (place : Place) → At text front bytes place → place.offset ≡ length front
At-offset text front bytes place at = ap (λ (p : Place). p.offset) at.place_is ∙ offset_past start front ∙ omega arith

At-drop : (text front bytes : List ℕ) (place : Place) → At text front bytes place → drop (length front) text ≡ bytes
At-drop text front bytes place at = ap (drop (length front)) at.whole ∙ drop-append_seam front bytes

At-take : (text front bytes : List ℕ) (place : Place) → At text front bytes place → take (length front) text ≡ front
At-take text front bytes place at = ap (take (length front)) at.whole ∙ take-append_seam front bytes

At-utf8 : (text front bytes : List ℕ) (place : Place) → At text front bytes place → IsUtf8 text → IsCharBoundary text (length front) → IsUtf8 bytes
At-utf8 text front bytes place at utf8 boundary = subst IsUtf8 (At-drop text front bytes place at) (IsUtf8-drop text (length front) utf8 boundary)

At-boundary : (text front bytes : List ℕ) (place : Place) (count : ℕ) → At text front bytes place → IsCharBoundary bytes count → IsCharBoundary text (length front + count)
At-boundary text front bytes place count at boundary =
    IsCharBoundary-from_rest text (length front) count (omega (arith, ap length at.whole, length-append front bytes)) (subst (λ (l : List ℕ). IsCharBoundary l count) (sym (At-drop text front bytes place at)) boundary)

token_found : TokenKind → ℕ → Result Piece LexFault
token_found kind count = Ok (pieces.Token kind count)

tokens_in-are : (text front bytes : List ℕ) (place : Place) (piece : Piece) → At text front bytes place → IsCharBoundary text (length front) → CanCut bytes (length_of piece) → piece_at place bytes ≡ Ok piece → All (IsTokenOf text) (tokens_in place piece)
unfolding token_found
tokens_in-are text front bytes place (pieces.Blank count) at begins cut is = All-nil (IsTokenOf text)
tokens_in-are text front bytes place (pieces.Token kind count) at begins cut is =
    let offset = At-offset text front bytes place at in
    let some = cut.some in
    let size : count ≡ place.offset + count - place.offset = omega arith in
    let ends = At-boundary text front bytes place count at cut.boundary in
    let before : take place.offset text ≡ front = ap (λ (n : ℕ). take n text) offset ∙ At-take text front bytes place at in
    let after : drop place.offset text ≡ bytes = ap (λ (n : ℕ). drop n text) offset ∙ At-drop text front bytes place at in
    let end : length front + count ≡ place.offset + count = omega arith in
    All-cons (IsTokenOf text) _ [] (record {
      some = omega arith;
      begins = subst (IsCharBoundary text) (sym offset) begins;
      ends = subst (IsCharBoundary text) end ends;
      place = at.place_is ∙ ap (place_past start) (sym before);
      piece = ap (piece_at place) after ∙ is ∙ ap (token_found kind) size;
    }) (All-nil (IsTokenOf text))

-- ---- the law

abbrev Law : List ℕ → List ℕ → Type 0
Law text bytes = (front : List ℕ) (taken : ℕ) (place : Place) (tokens : List Token) → At text front bytes place → IsUtf8 text → taken ≤ length bytes → IsCharBoundary text (length front + taken) → tokens_from taken place bytes ≡ Ok tokens → All (IsTokenOf text) tokens

law-rest : (text front : List ℕ) (byte : ℕ) (bytes : List ℕ) (place : Place) (piece : Piece) (tokens : List Token) (rest : Result (List Token) LexFault) → Law text bytes → At text front (byte ∷ bytes) place → IsUtf8 text → IsCharBoundary text (length front)
    → piece_at place (byte ∷ bytes) ≡ Ok piece → tokens_from (length_of piece - 1) (place_after place byte) bytes ≡ rest → with_front (tokens_in place piece) rest ≡ Ok tokens → All (IsTokenOf text) tokens
unfolding with_front
law-rest text front byte bytes place piece tokens (Err fault) further at utf8 begins is rest_is same = absurd cc
law-rest text front byte bytes place piece tokens (Ok more) further at utf8 begins is rest_is same =
    let cut : CanCut (byte ∷ bytes) (length_of piece) = found_cut place (byte ∷ bytes) piece (At-utf8 text front (byte ∷ bytes) place at utf8 begins) (omega arith) is in
    let some = cut.some in
    let within = cut.boundary.0 in
    let both : tokens_in place piece ++ more ≡ tokens = cc in
    let ends : IsCharBoundary text (length front + length_of piece) = At-boundary text front (byte ∷ bytes) place (length_of piece) at cut.boundary in
    let step : length front + length_of piece ≡ length (front ++ byte ∷ []) + (length_of piece - 1) = omega (arith, length-append front (byte ∷ [])) in
    subst (All (IsTokenOf text)) both (All-append (IsTokenOf text) (tokens_in place piece) more (tokens_in-are text front (byte ∷ bytes) place piece at begins cut is)
    (further (front ++ byte ∷ []) (length_of piece - 1) (place_after place byte) more (At-more text front byte bytes place at) utf8 (omega arith) (subst (IsCharBoundary text) step ends) rest_is))

law-piece : (text front : List ℕ) (byte : ℕ) (bytes : List ℕ) (place : Place) (tokens : List Token) (found : Result Piece LexFault) → Law text bytes → At text front (byte ∷ bytes) place → IsUtf8 text → IsCharBoundary text (length front)
    → piece_at place (byte ∷ bytes) ≡ found → (found >>= λ piece. with_front (tokens_in place piece) (tokens_from (length_of piece - 1) (place_after place byte) bytes)) ≡ Ok tokens → All (IsTokenOf text) tokens
law-piece text front byte bytes place tokens (Err fault) further at utf8 begins is same = absurd cc
law-piece text front byte bytes place tokens (Ok piece) further at utf8 begins is same = law-rest text front byte bytes place piece tokens _ further at utf8 begins is refl same

law : (text bytes : List ℕ) → Law text bytes
law text [] front taken place tokens at utf8 within boundary same = let none : [] ≡ tokens = cc in subst (All (IsTokenOf text)) none (All-nil (IsTokenOf text))
law text (byte ∷ bytes) front zero place tokens at utf8 within boundary same =
    let begins : length front + zero ≡ length front = omega arith in
    law-piece text front byte bytes place tokens (piece_at place (byte ∷ bytes)) (law text bytes) at utf8 (subst (IsCharBoundary text) begins boundary) refl same
law text (byte ∷ bytes) front (suc taken) place tokens at utf8 within boundary same =
    let step : length front + suc taken ≡ length (front ++ byte ∷ []) + taken = omega (arith, length-append front (byte ∷ [])) in
    law text bytes (front ++ byte ∷ []) taken (place_after place byte) tokens (At-more text front byte bytes place at) utf8 (omega arith) (subst (IsCharBoundary text) step boundary) same

pub tokens_of-are : TokensAreOfTheText
tokens_of-are text tokens utf8 same =
    law text text [] 0 start tokens (record { whole = refl; place_is = refl }) utf8 (omega arith) (IsCharBoundary-start text utf8) same

-- a token of a text stands at its place
pub token-stands : (text : List ℕ) (token : Token) → IsTokenOf text token → IsPlaceIn text token.place
token-stands text token is =
    let within = is.begins.0 in
    let offset : token.place.offset ≡ token.from = ap (λ (p : Place). p.offset) is.place ∙ offset_past start (take token.from text) ∙ omega (arith, length-take-le token.from text within) in
    is.place ∙ ap (λ (n : ℕ). place_past start (take n text)) (sym offset)
