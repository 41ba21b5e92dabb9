-- The tokens of a text, or its first fault. This project's own.
use Rattle.std.specs.Prelude.{ℕ, zero, suc, ◌+◌, ◌-◌, List, [], ◌∷◌, ◌++◌, Result, Ok}
use Rattle.tydi_base.specs.Reading.{◌>>=◌}
use Rattle.tydi_base.specs.declared.place.Place.{Place}
use Rattle.til_lexer.specs.declared.fault.LexFault.{LexFault}
use Rattle.til_lexer.specs.declared.token.Token.{Token}
use Rattle.til_lexer.specs.declared.piece.Piece.{Piece}
use Rattle.til_lexer.specs.declared.piece.Piece.TheVariants as pieces
use Rattle.til_lexer.specs.Places.{start, place_after}
use Rattle.til_lexer.specs.Pieces.{piece_at}

-- how many bytes a piece has
abbrev pub length_of : Piece → ℕ
length_of (pieces.Blank count) = count
length_of (pieces.Token kind count) = count

-- the token that a piece at this place is: none between tokens
abbrev pub tokens_in : Place → Piece → List Token
tokens_in place (pieces.Blank count) = []
tokens_in place (pieces.Token kind count) = record { kind = kind; from = place.offset; to = place.offset + count; place = place } ∷ []

-- tokens, and then those that follow
unfoldable pub with_front : List Token → Result (List Token) LexFault → Result (List Token) LexFault
with_front front read = read >>= λ tokens. Ok (front ++ tokens)

-- the tokens of a text whose front stands at this place, after so many bytes of it that a piece before has: at the end there
-- are none; else the piece at the front, and then what follows that piece
abbrev pub tokens_from : ℕ → Place → List ℕ → Result (List Token) LexFault
tokens_from taken place [] = Ok []
tokens_from (suc taken) place (byte ∷ bytes) = tokens_from taken (place_after place byte) bytes
tokens_from zero place (byte ∷ bytes) =
    piece_at place (byte ∷ bytes) >>= λ piece.
    with_front (tokens_in place piece) (tokens_from (length_of piece - 1) (place_after place byte) bytes)

-- the tokens of a text, or its first fault
abbrev pub tokens_of : List ℕ → Result (List Token) LexFault
tokens_of text = tokens_from 0 start text
