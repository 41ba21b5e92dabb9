-- The tokens of a text, each with its own text. This project's own.
use Rattle.std.specs.Prelude.{ℕ, ◌-◌, List, [], ◌∷◌, take, drop, length}
use Rattle.tydi_base.specs.declared.place.Place.{Place}
use Rattle.til_lexer.specs.declared.token.Token.{Token}
use Rattle.til_lexer.specs.declared.token.TokenKind.{TokenKind}
use Rattle.til_lexer.specs.Spelling.{HasForm, own_text}

-- a token of a text: its kind, its text and the place of its first byte
pub record Lexeme : Type 0 where
  pub kind : TokenKind
  pub spelling : List ℕ
  pub place : Place

-- a token of a text has the form of its kind
abbrev pub HasFormIn : List ℕ → Token → Type 0
HasFormIn text token = HasForm token.kind (own_text text token)

-- a token of a text
abbrev pub lexeme_of : List ℕ → Token → Lexeme
lexeme_of text token = record { kind = token.kind; spelling = own_text text token; place = token.place }

-- tokens of a text
abbrev pub lexemes_of : List ℕ → List Token → List Lexeme
lexemes_of text [] = []
lexemes_of text (token ∷ tokens) = lexeme_of text token ∷ lexemes_of text tokens

-- a token has the form of its kind
abbrev pub IsFormed : Lexeme → Type 0
IsFormed lexeme = HasForm lexeme.kind lexeme.spelling

-- the text between the two marks of quoted text or documentation
abbrev pub between_marks : List ℕ → List ℕ
between_marks spelling = take (length spelling - 2) (drop 1 spelling)
