-- A piece of a text, and the place after it. This project's own.
use Rattle.std.specs.Prelude.{ℕ, List, take, Result, Ok, Err}
use Rattle.tydi_base.specs.declared.place.Place.{Place}
use Rattle.til_lexer.specs.declared.fault.LexFault.{LexFault}
use Rattle.til_lexer.specs.declared.piece.Piece.{Piece}
use Rattle.til_lexer.specs.Pieces.{piece_at}
use Rattle.til_lexer.specs.Places.{along, place_past}
use Rattle.til_lexer.specs.Tokens.{length_of}

-- a piece that was found at the front of a text at this place, with the place after it
abbrev pub placed : Place → List ℕ → Result Piece LexFault → Result (Piece × Place) LexFault
placed place bytes (Ok piece) = Ok (piece, place_past place (take (length_of piece) bytes))
placed place bytes (Err fault) = Err fault

-- the piece at the front of a text at this place, with the place after it
abbrev pub found_at : Place → List ℕ → Result (Piece × Place) LexFault
found_at place bytes = placed place bytes (piece_at place bytes)

-- a piece that was found in one line at this place, with the place after it
abbrev pub along_line : Place → Result Piece LexFault → Result (Piece × Place) LexFault
along_line place (Ok piece) = Ok (piece, along place (length_of piece))
along_line place (Err fault) = Err fault
