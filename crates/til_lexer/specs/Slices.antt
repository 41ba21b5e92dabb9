-- Each token of a text is a slice of the text. This project's own.
use Rattle.std.specs.Prelude.{◌≡◌, ℕ, ◌-◌, ◌<◌, List, take, drop, All, Ok}
use Rattle.std.specs.Str.{IsUtf8, IsCharBoundary}
use Rattle.til_lexer.specs.declared.piece.Piece.TheVariants as pieces
use Rattle.til_lexer.specs.declared.token.Token.{Token}
use Rattle.til_lexer.specs.Pieces.{piece_at}
use Rattle.til_lexer.specs.Places.{start, place_past}
use Rattle.til_lexer.specs.Tokens.{tokens_of}

-- a token of a text: it has a byte at least, no character is cut where it begins or ends, its place is that of its first
-- byte, and the piece that stands there is of its kind and length
pub record IsTokenOf (text : List ℕ) (token : Token) : Type 0 where
  pub some : token.from < token.to
  pub begins : IsCharBoundary text token.from
  pub ends : IsCharBoundary text token.to
  pub place : token.place ≡ place_past start (take token.from text)
  pub piece : piece_at token.place (drop token.from text) ≡ Ok (pieces.Token token.kind (token.to - token.from))

-- each token of a text without a fault is one of it
abbrev pub TokensAreOfTheText : Type 0
TokensAreOfTheText = (text : List ℕ) (tokens : List Token) → IsUtf8 text → tokens_of text ≡ Ok tokens → All (IsTokenOf text) tokens
