-- The pieces of a text between bytes of one kind. This project's own.
use Rattle.std.specs.Prelude.{◌≡◌, ◌≢◌, ℕ, ◌<◌, ◌==◌, List, length, All}
use Rattle.std.specs.List.{slice_split, join_with_byte}

-- the pieces between the separators, an empty one where two stand together
abbrev pub pieces_of : ℕ → List ℕ → List (List ℕ)
pieces_of separator text = slice_split (λ byte. byte == separator) text

-- the words of a line, with one space between each two
abbrev pub words_of : List ℕ → List (List ℕ)
words_of line = pieces_of 32 line

-- the lines of a text up to each LF, and what follows the last LF
abbrev pub lines_of : List ℕ → List (List ℕ)
lines_of text = pieces_of 10 text

-- a text in which the separator does not stand
abbrev pub Lacks : ℕ → List ℕ → Type 0
Lacks separator text = All (λ byte. byte ≢ separator) text

-- the pieces of a text, joined again, are the text
abbrev pub PiecesJoinAgain : Type 0
PiecesJoinAgain = (separator : ℕ) (text : List ℕ) → join_with_byte separator (pieces_of separator text) ≡ text

-- no piece has a separator in it
abbrev pub PiecesLackSeparators : Type 0
PiecesLackSeparators = (separator : ℕ) (text : List ℕ) → All (Lacks separator) (pieces_of separator text)

-- a text joined of such pieces, one at least, has these pieces and no others
abbrev pub JoinsFallApart : Type 0
JoinsFallApart = (separator : ℕ) (pieces : List (List ℕ)) → 0 < length pieces → All (Lacks separator) pieces → pieces_of separator (join_with_byte separator pieces) ≡ pieces
