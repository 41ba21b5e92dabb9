-- The form of each kind of token, and how tokens are spelled so that they are read again. This project's own.
use Rattle.std.specs.Prelude.{◌≡◌, ℕ, ◌+◌, ◌-◌, ◌<◌, ◌≤◌, ◌==◌, ◌&&◌, ◌||◌, ◌⊎◌, Bool, false, List, [], ◌∷◌, ◌++◌, length, take, drop, map, slice_index}
use Rattle.std.specs.Prelude.{Ok, IsTrue, All, codes}
use Rattle.std.specs.Char.{is_ascii_digit}
use Rattle.std.specs.List.{list_all}
use Rattle.std.specs.Str.{IsUtf8}
use Rattle.tydi_base.specs.declared.place.Place.{Place}
use Rattle.tydi_base.specs.Name.{is_name_byte, has_name_form}
use Rattle.tydi_base.specs.Pieces.{Lacks}
use Rattle.til_lexer.specs.declared.token.Token.{Token}
use Rattle.til_lexer.specs.declared.token.TokenKind.{TokenKind}
use Rattle.til_lexer.specs.declared.token.TokenKind.TheVariants as kinds
use Rattle.til_lexer.specs.Places.{start, place_past}
use Rattle.til_lexer.specs.Spans.{is_space}
use Rattle.til_lexer.specs.Tokens.{tokens_of}

-- the text of a token: what stands from its first byte up to the byte after it
abbrev pub own_text : List ℕ → Token → List ℕ
own_text text token = take (token.to - token.from) (drop token.from text)

-- ---- the form of each kind

-- digits, one at least
pub record AreDigits (digits : List ℕ) : Type 0 where
  pub some : 0 < length digits
  pub each : IsTrue (list_all is_ascii_digit digits)

-- a number without a point: digits, not too many
pub record IsWholeNumber (text : List ℕ) : Type 0 where
  pub digits : AreDigits text
  pub few : length text ≤ 18

-- a number with a point: digits before it and digits behind it, not too many in all
pub record IsPointNumber (text : List ℕ) : Type 0 where
  pub before : List ℕ
  pub behind : List ℕ
  pub parts : text ≡ before ++ 46 ∷ behind
  pub digits_before : AreDigits before
  pub digits_behind : AreDigits behind
  pub few : length before + length behind ≤ 18

-- a text in UTF-8 between two such marks, without such a mark in it
pub record IsBetween (mark : ℕ) (text : List ℕ) : Type 0 where
  pub inside : List ℕ
  pub marked : text ≡ mark ∷ inside ++ mark ∷ []
  pub lacks : Lacks mark inside
  pub utf8 : IsUtf8 inside

-- a text has the form of a token of this kind
abbrev pub HasForm : TokenKind → List ℕ → Type 0
HasForm kinds.Word text = IsTrue (has_name_form text)
HasForm kinds.Number text = IsWholeNumber text ⊎ IsPointNumber text
HasForm kinds.Quoted text = IsBetween 34 text
HasForm kinds.Doc text = IsBetween 35 text
HasForm kinds.OpenBrace text = text ≡ codes "{"
HasForm kinds.CloseBrace text = text ≡ codes "}"
HasForm kinds.OpenParen text = text ≡ codes "("
HasForm kinds.CloseParen text = text ≡ codes ")"
HasForm kinds.Colon text = text ≡ codes ":"
HasForm kinds.DoubleColon text = text ≡ codes "::"
HasForm kinds.Semicolon text = text ≡ codes ";"
HasForm kinds.Comma text = text ≡ codes ","
HasForm kinds.Equals text = text ≡ codes "="
HasForm kinds.Point text = text ≡ codes "."
HasForm kinds.DoubleDash text = text ≡ codes "--"

-- ---- tokens that are spelled

-- a token that is spelled: its kind, its text, and the white space after it
pub record Spelled : Type 0 where
  pub kind : TokenKind
  pub spelling : List ℕ
  pub gap : List ℕ

-- the text of tokens that are spelled one after another
abbrev pub spelled_text : List Spelled → List ℕ
spelled_text [] = []
spelled_text (piece ∷ pieces) = (piece.spelling ++ piece.gap) ++ spelled_text pieces

-- some token of this kind would go on with this byte after it
abbrev pub runs_on : TokenKind → ℕ → Bool
runs_on kinds.Word byte = is_name_byte byte
runs_on kinds.Number byte = is_ascii_digit byte || byte == 46
runs_on kinds.Colon byte = byte == 58
runs_on kind byte = false

-- a token of this kind and text would go on with this byte after it: a number with a point goes on with digits alone
abbrev pub goes_on : TokenKind → List ℕ → ℕ → Bool
goes_on kinds.Number spelling byte = is_ascii_digit byte || (list_all is_ascii_digit spelling && byte == 46)
goes_on kind spelling byte = runs_on kind byte

-- a token has the form of its kind, and white space after it
pub record IsSpelled (piece : Spelled) : Type 0 where
  pub form : HasForm piece.kind piece.spelling
  pub space : IsTrue (list_all is_space piece.gap)

-- a token with no white space after it would not go on with the one that follows, if one does
abbrev pub IsApart : Spelled → List Spelled → Type 0
IsApart piece [] = Unit {0}
IsApart piece (next ∷ pieces) = piece.gap ≡ [] → goes_on piece.kind piece.spelling (slice_index next.spelling 0) ≡ false

-- each of these tokens is spelled in its form, and apart from the next
abbrev pub AreSpelled : List Spelled → Type 0
AreSpelled [] = Unit {0}
AreSpelled (piece ∷ pieces) = IsSpelled piece × IsApart piece pieces × AreSpelled pieces

-- the token that is spelled at this place
abbrev pub token_spelled : Place → Spelled → Token
token_spelled place piece = record { kind = piece.kind; from = place.offset; to = place.offset + length piece.spelling; place = place }

-- the tokens that are spelled from this place on
abbrev pub tokens_spelled : Place → List Spelled → List Token
tokens_spelled place [] = []
tokens_spelled place (piece ∷ pieces) = token_spelled place piece ∷ tokens_spelled (place_past place (piece.spelling ++ piece.gap)) pieces

-- ---- the laws

-- each token of a text without a fault has the form of its kind
abbrev pub TokensHaveTheirForm : Type 0
TokensHaveTheirForm =
    (text : List ℕ) (tokens : List Token) → IsUtf8 text → tokens_of text ≡ Ok tokens → All (λ token. HasForm token.kind (own_text text token)) tokens

-- a spelling of tokens is read as these tokens
abbrev pub SpelledTokensAreRead : Type 0
SpelledTokensAreRead = (pieces : List Spelled) → AreSpelled pieces → tokens_of (spelled_text pieces) ≡ Ok (tokens_spelled start pieces)

-- the text of each token that is spelled is its spelling
abbrev pub SpellingsAreTheirTexts : Type 0
SpellingsAreTheirTexts =
    (pieces : List Spelled) → map (own_text (spelled_text pieces)) (tokens_spelled start pieces) ≡ map (λ piece. piece.spelling) pieces
