-- A text has no more tokens than bytes.
use Rattle.std.proofs.Common.{◌≡◌, ℕ, zero, suc, ◌-◌, ◌≤◌, List, [], ◌∷◌, ◌++◌, length, Result, Ok, Err, length-append, refl, ap, arith}
use Rattle.tydi_base.specs.declared.place.Place.{Place}
use Rattle.tydi_base.specs.Reading.{◌>>=◌}
use Rattle.til_lexer.specs.declared.fault.LexFault.{LexFault}
use Rattle.til_lexer.specs.declared.piece.Piece.{Piece}
use Rattle.til_lexer.specs.declared.piece.Piece.TheVariants as pieces
use Rattle.til_lexer.specs.declared.token.Token.{Token}
use Rattle.til_lexer.specs.Pieces.{piece_at}
use Rattle.til_lexer.specs.Places.{start, place_after}
use Rattle.til_lexer.specs.Tokens.{length_of, with_front, tokens_in, tokens_from, tokens_of}

one_token : (place : Place) (piece : Piece) → length (tokens_in place piece) ≤ 1
one_token place (pieces.Blank count) = omega arith
one_token place (pieces.Token kind count) = omega arith

rest_few : (place : Place) (piece : Piece) (rest : Result (List Token) LexFault) (tokens : List Token) (count : ℕ) → with_front (tokens_in place piece) rest ≡ Ok tokens
    → ((more : List Token) → rest ≡ Ok more → length more ≤ count) → length tokens ≤ suc count
unfolding with_front
rest_few place piece (Err fault) tokens count is few = absurd cc
rest_few place piece (Ok more) tokens count is few =
    let both : tokens_in place piece ++ more ≡ tokens = cc in
    let size = ap length both in
    let sum = length-append (tokens_in place piece) more in
    let one = one_token place piece in
    let least = few more refl in
    omega arith

piece_few : (place : Place) (found : Result Piece LexFault) (rest : Piece → Result (List Token) LexFault) (tokens : List Token) (count : ℕ)
    → (found >>= λ piece. with_front (tokens_in place piece) (rest piece)) ≡ Ok tokens
    → ((piece : Piece) (more : List Token) → rest piece ≡ Ok more → length more ≤ count) → length tokens ≤ suc count
piece_few place (Err fault) rest tokens count is few = absurd cc
piece_few place (Ok piece) rest tokens count is few = rest_few place piece (rest piece) tokens count is (few piece)

few : (taken : ℕ) (place : Place) (bytes : List ℕ) (tokens : List Token) → tokens_from taken place bytes ≡ Ok tokens → length tokens ≤ length bytes
few taken place [] tokens is = let none : [] ≡ tokens = cc in let size = ap length none in omega arith
few (suc taken) place (byte ∷ bytes) tokens is = let most = few taken (place_after place byte) bytes tokens is in omega arith
few zero place (byte ∷ bytes) tokens is =
    piece_few place (piece_at place (byte ∷ bytes)) (λ piece. tokens_from (length_of piece - 1) (place_after place byte) bytes) tokens (length bytes) is
    (λ piece more made. few (length_of piece - 1) (place_after place byte) bytes more made)

pub tokens_of-few : (text : List ℕ) (tokens : List Token) → tokens_of text ≡ Ok tokens → length tokens ≤ length text
tokens_of-few text tokens is = few 0 start text tokens is
