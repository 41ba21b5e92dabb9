-- The piece at the front of a text: a token, or what lies between tokens. This project's own. A text is its bytes in UTF-8. All
-- that tells pieces apart is ASCII, a byte for each character, but for the characters of words.
use Rattle.std.specs.Prelude.{ℕ, ◌+◌, ◌==◌, ◌&&◌, nat_lt, List, drop, length, slice_index, Option, Some, None, Result, Ok, Err, if◌then◌else◌}
use Rattle.std.specs.Char.{is_ascii, is_ascii_digit}
use Rattle.std.specs.List.{list_all}
use Rattle.std.specs.Str.{chars}
use Rattle.tydi_base.specs.declared.place.Place.{Place}
use Rattle.til_lexer.specs.declared.fault.LexFault.{LexFault}
use Rattle.til_lexer.specs.declared.fault.LexFault.TheVariants as faults
use Rattle.til_lexer.specs.declared.token.TokenKind.{TokenKind}
use Rattle.til_lexer.specs.declared.token.TokenKind.TheVariants as kinds
use Rattle.til_lexer.specs.declared.piece.Piece.{Piece}
use Rattle.til_lexer.specs.declared.piece.Piece.TheVariants.{Blank, Token}
use Rattle.til_lexer.specs.Spans.{is_space, space_length, begins_comment, line_length, digits_at, digits_after_point, until_mark}
use Rattle.til_lexer.specs.Words.{starts_word, word_of}
use Rattle.tydi_base.specs.Name.{has_name_form}

-- the token that a word is, with a byte for each of its characters: a fault where one of them is not ASCII, and else where it
-- has not the form of a name
unfoldable pub word_token : Place → List ℕ → Result Piece LexFault
word_token place word =
    if list_all is_ascii word
    then (if has_name_form word then Ok (Token kinds.Word (length word)) else Err (faults.BadName place))
    else Err (faults.NameNotAscii place)

-- how many bytes a number has: a point counts only before a digit
abbrev pub number_length : ℕ → ℕ → ℕ
number_length whole fraction = if fraction == 0 then whole else whole + 1 + fraction

-- the token that a number of so many digits before and after its point is: a fault where they are too many
unfoldable pub number_token : Place → ℕ → ℕ → Result Piece LexFault
number_token place whole fraction =
    if nat_lt 18 (whole + fraction) then Err (faults.NumberTooLong place)
    else Ok (Token kinds.Number (number_length whole fraction))

-- the number at the front of a text: digits, and then a point and digits where both stand there
abbrev pub number_at : Place → List ℕ → Result Piece LexFault
number_at place bytes = number_token place (digits_at bytes) (digits_after_point (drop (digits_at bytes) bytes))

-- the token from a mark to the next such mark, of so many bytes between them: a fault where there is no next
unfoldable pub closed_token : TokenKind → LexFault → Option ℕ → Result Piece LexFault
closed_token kind fault (Some inside) = Ok (Token kind (inside + 2))
closed_token kind fault None = Err fault

-- the symbol of two bytes
unfoldable pub double_symbol : ℕ → ℕ → Option TokenKind
double_symbol first second =
    if first == 58 && second == 58 then Some kinds.DoubleColon
    else (if first == 45 && second == 45 then Some kinds.DoubleDash
    else None)

-- the symbol of one byte
unfoldable pub single_symbol : ℕ → Option TokenKind
single_symbol byte =
    if byte == 123 then Some kinds.OpenBrace
    else (if byte == 125 then Some kinds.CloseBrace
    else (if byte == 40 then Some kinds.OpenParen
    else (if byte == 41 then Some kinds.CloseParen
    else (if byte == 58 then Some kinds.Colon
    else (if byte == 59 then Some kinds.Semicolon
    else (if byte == 44 then Some kinds.Comma
    else (if byte == 61 then Some kinds.Equals
    else (if byte == 46 then Some kinds.Point
    else None))))))))

-- the token of a symbol of two bytes, else of one: a fault where there is neither
unfoldable pub symbol_token : Place → Option TokenKind → Option TokenKind → Result Piece LexFault
symbol_token place (Some kind) single = Ok (Token kind 2)
symbol_token place None (Some kind) = Ok (Token kind 1)
symbol_token place None None = Err (faults.StrayChar place)

-- the symbol at the front of a text, the longest
abbrev pub symbol_at : Place → List ℕ → Result Piece LexFault
symbol_at place bytes = symbol_token place (double_symbol (slice_index bytes 0) (slice_index bytes 1)) (single_symbol (slice_index bytes 0))

-- a piece that is neither blank nor word: a number, quoted text, documentation or a symbol
unfoldable pub mark_at : Place → List ℕ → Result Piece LexFault
mark_at place bytes =
    if is_ascii_digit (slice_index bytes 0) then number_at place bytes
    else (if slice_index bytes 0 == 34 then closed_token kinds.Quoted (faults.OpenString place) (until_mark 34 (drop 1 bytes))
    else (if slice_index bytes 0 == 35 then closed_token kinds.Doc (faults.OpenDoc place) (until_mark 35 (drop 1 bytes))
    else symbol_at place bytes))

-- the piece at the front of a text, or the fault there. The front of the text stands at this place.
unfoldable pub piece_at : Place → List ℕ → Result Piece LexFault
piece_at place bytes =
    if is_space (slice_index bytes 0) then Ok (Blank (space_length bytes))
    else (if begins_comment bytes then Ok (Blank (line_length bytes))
    else (if starts_word (slice_index (chars bytes) 0) then word_token place (word_of (chars bytes))
    else mark_at place bytes))
