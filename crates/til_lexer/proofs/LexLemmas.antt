-- The tokens of a text, piece by piece.
use Rattle.std.proofs.Common.{◌≡◌, ℕ, zero, suc, ◌-◌, ◌<◌, true, false, eqb, List, [], ◌∷◌, ◌++◌, length, take, drop, append_assoc, Result, Ok, Err, refl, sym, ap, ◌∙◌, arith}
use Rattle.std.proofs.lemmas.Bool.Decides.{nat_tests}
use Rattle.std.proofs.lemmas.List.{append-nil}
use Rattle.tydi_base.specs.declared.place.Place.{Place}
use Rattle.tydi_base.specs.Reading.{Gives}
use Rattle.std.specs.Str.{IsUtf8}
use Rattle.til_lexer.proofs.CutLemmas.{CanCut}
use Rattle.til_lexer.proofs.PieceCuts.{found_cut}
use Rattle.til_lexer.specs.declared.fault.LexFault.{LexFault}
use Rattle.til_lexer.specs.declared.fault.LexFault.TheVariants as faults
use Rattle.til_lexer.specs.declared.piece.Piece.{Piece}
use Rattle.til_lexer.specs.declared.token.Token.{Token}
use Rattle.til_lexer.specs.Faults.{fault_in}
use Rattle.til_lexer.specs.Found.{placed}
use Rattle.til_lexer.specs.Pieces.{piece_at}
use Rattle.til_lexer.specs.Places.{place_after, place_past}
use Rattle.til_lexer.specs.Tokens.{length_of, with_front, tokens_in, tokens_from}

abbrev Tokens : Type 0
Tokens = Result (List Token) LexFault

pub with_front-nil : (read : Tokens) → with_front [] read ≡ read
unfolding with_front
with_front-nil (Ok tokens) = refl
with_front-nil (Err fault) = refl

with_front-append : (front next : List Token) (read : Tokens) → with_front front (with_front next read) ≡ with_front (front ++ next) read
unfolding with_front
with_front-append front next (Ok tokens) = rw (append_assoc front next tokens) refl
with_front-append front next (Err fault) = refl

-- the bytes that a piece has taken of a text are passed over
taken : (count : ℕ) (place : Place) (bytes : List ℕ) → tokens_from count place bytes ≡ tokens_from 0 (place_past place (take count bytes)) (drop count bytes)
taken zero place bytes = refl
taken (suc count) place [] = refl
taken (suc count) place (byte ∷ bytes) = taken count (place_after place byte) bytes

taken-first : (count : ℕ) (place : Place) (byte : ℕ) (bytes : List ℕ) → 0 < count → tokens_from (count - 1) (place_after place byte) bytes ≡ tokens_from 0 (place_past place (take count (byte ∷ bytes))) (drop count (byte ∷ bytes))
taken-first zero place byte bytes some = absurd (omega arith)
taken-first (suc count) place byte bytes some = let less : suc count - 1 ≡ count = omega arith in rw less (taken count (place_after place byte) bytes)

-- a piece, and then what follows it
pub tokens_from-piece : (place : Place) (bytes : List ℕ) (piece : Piece) → 0 < length bytes → Ok piece ≡ piece_at place bytes → 0 < length_of piece → tokens_from 0 place bytes ≡ with_front (tokens_in place piece) (tokens_from 0 (place_past place (take (length_of piece) bytes)) (drop (length_of piece) bytes))
tokens_from-piece place [] piece some is size = absurd (omega arith)
tokens_from-piece place (byte ∷ bytes) piece some is size = rw (sym is) (ap (λ read. with_front (tokens_in place piece) read) (taken-first (length_of piece) place byte bytes size))

tokens_from-fault : (place : Place) (bytes : List ℕ) (fault : LexFault) → 0 < length bytes → Err fault ≡ piece_at place bytes → tokens_from 0 place bytes ≡ Err fault
tokens_from-fault place [] fault some is = absurd (omega arith)
tokens_from-fault place (byte ∷ bytes) fault some is = rw (sym is) refl

-- ---- the tokens so far, in front of those of what is left

more-at : (whole : Tokens) (tokens : List Token) (place : Place) (bytes : List ℕ) (piece : Piece) → with_front tokens (tokens_from 0 place bytes) ≡ whole → 0 < length bytes → Ok piece ≡ piece_at place bytes → 0 < length_of piece
    → with_front (tokens ++ tokens_in place piece) (tokens_from 0 (place_past place (take (length_of piece) bytes)) (drop (length_of piece) bytes)) ≡ whole
more-at whole tokens place bytes piece same some is size =
    sym (with_front-append tokens (tokens_in place piece) _) ∙ ap (with_front tokens) (sym (tokens_from-piece place bytes piece some is size)) ∙ same

pub more : (whole : Tokens) (tokens new : List Token) (place next : Place) (bytes rest : List ℕ) (piece : Piece)
    → with_front tokens (tokens_from 0 place bytes) ≡ whole → 0 < length bytes → Ok piece ≡ piece_at place bytes → 0 < length_of piece
    → new ≡ tokens ++ tokens_in place piece → rest ≡ drop (length_of piece) bytes → next ≡ place_past place (take (length_of piece) bytes)
    → with_front new (tokens_from 0 next rest) ≡ whole
more whole tokens new place next bytes rest piece same some is size added after moved = rw (added, moved, after) (more-at whole tokens place bytes piece same some is size)

pub at_end : (whole : Tokens) (tokens : List Token) (place : Place) (bytes : List ℕ) → with_front tokens (tokens_from 0 place bytes) ≡ whole → true ≡ eqb (length bytes) 0 → whole ≡ Ok tokens
unfolding with_front
at_end whole tokens place [] same none = sym same ∙ ap Ok (append-nil tokens)
at_end whole tokens place (byte ∷ bytes) same none = absurd (grind (arith, nat_tests))

pub nonempty : (bytes : List ℕ) → false ≡ eqb (length bytes) 0 → 0 < length bytes
nonempty bytes test = grind (arith, nat_tests)

pub can_cut : (place : Place) (bytes : List ℕ) (piece : Piece) → IsUtf8 bytes → false ≡ eqb (length bytes) 0 → Ok piece ≡ piece_at place bytes → CanCut bytes (length_of piece)
can_cut place bytes piece utf8 test is = found_cut place bytes piece utf8 (nonempty bytes test) (sym is)

gives_fault : (fault : LexFault) (whole : Tokens) → whole ≡ Err fault → Gives fault_in (λ (tokens : List Token). tokens) (Err fault) whole
gives_fault (faults.StrayChar place) whole same = same
gives_fault (faults.OpenString place) whole same = same
gives_fault (faults.OpenDoc place) whole same = same
gives_fault (faults.NameNotAscii place) whole same = same
gives_fault (faults.BadName place) whole same = same
gives_fault (faults.NumberTooLong place) whole same = same
gives_fault faults.Memory whole same = tt

pub fails : (whole : Tokens) (tokens : List Token) (place : Place) (bytes : List ℕ) (fault : LexFault) → with_front tokens (tokens_from 0 place bytes) ≡ whole → 0 < length bytes → Err fault ≡ piece_at place bytes → Gives fault_in (λ (tokens : List Token). tokens) (Err fault) whole
unfolding with_front
fails whole tokens place bytes fault same some is =
    gives_fault fault whole (sym same ∙ ap (with_front tokens) (tokens_from-fault place bytes fault some is))

-- the piece that was found, with the place after it
pub piece-of : (place : Place) (bytes : List ℕ) (found : Result Piece LexFault) (piece : Piece) (after : Place) → Ok (piece, after) ≡ placed place bytes found
    → (Ok piece ≡ found) × (after ≡ place_past place (take (length_of piece) bytes))
piece-of place bytes (Ok other) piece after is =
    let pair : ◌≡◌ {A = Piece × Place} (piece, after) (other, place_past place (take (length_of other) bytes)) = cc in
    let same : piece ≡ other = ap (λ (x : Piece × Place). x.0) pair in
    (ap Ok same, ap (λ (x : Piece × Place). x.1) pair ∙ ap (λ p. place_past place (take (length_of p) bytes)) (sym same))
piece-of place bytes (Err fault) piece after is = absurd cc

pub fault-of : (place : Place) (bytes : List ℕ) (found : Result Piece LexFault) (fault : LexFault) → Err fault ≡ placed place bytes found → Err fault ≡ found
fault-of place bytes (Ok piece) fault is = absurd cc
fault-of place bytes (Err other) fault is = let same : fault ≡ other = cc in ap Err same
