-- The steps of which the readers of tokens are made. No public clause names them. This project's own.
use Rattle.std.specs.Prelude.{◌&&◌, ℕ, Bool, List, [], ◌∷◌, Option, Some, None, option_and_then, if◌then◌else◌}
use Rattle.std.specs.Str.{bytes_eq}
use denote.Enum.Bare.{sameb}
use Rattle.tydi_base.specs.declared.place.Place.{Place}
use Rattle.tydi_reading.specs.Reading as steps
use Rattle.tydi_reading.specs.Reading.{meant, rest_of}
use Rattle.tydi_reading.specs.Lists.{mark}
use Rattle.tydi_base.specs.Name.{has_name_form}
use Rattle.til_lexer.specs.contracts.token.TokenKind.{the_type}
use Rattle.til_lexer.specs.declared.token.TokenKind.{TokenKind}
use Rattle.til_lexer.specs.declared.token.TokenKind.TheVariants as kinds
use Rattle.til_parser.specs.declared.refusal.TooDeep.{TooDeep}
use Rattle.til_parser.specs.Lexemes.{Lexeme}

-- from the tokens that are left to what is read of them
abbrev pub Reader : Type 0 → Type 0
Reader A = steps.Reader TooDeep Lexeme A

-- two kinds are the same
unfoldable pub same_kind : TokenKind → TokenKind → Bool
same_kind = sameb the_type

-- a token is of this kind
abbrev pub is_kind : TokenKind → Lexeme → Bool
is_kind kind lexeme = same_kind lexeme.kind kind

-- a token is this word
abbrev pub is_word : List ℕ → Lexeme → Bool
is_word word lexeme = same_kind lexeme.kind kinds.Word && bytes_eq lexeme.spelling word

-- a token with which a type may begin: a word, in its form
abbrev pub begins_type : Lexeme → Bool
begins_type lexeme = same_kind lexeme.kind kinds.Word && has_name_form lexeme.spelling

-- takes the next token, which is to be of this kind
abbrev pub expect : TokenKind → Reader (Unit {0})
expect kind = mark (is_kind kind)

-- takes the next token, which is to be this word
abbrev pub expect_word : List ℕ → Reader (Unit {0})
expect_word word = mark (is_word word)

-- the place and the text of the next token, where it is of this kind
abbrev pub next_of : TokenKind → List Lexeme → Option (Place × List ℕ)
next_of kind [] = None
next_of kind (next ∷ _) = if same_kind next.kind kind then Some (next.place, next.spelling) else None

-- takes the next token, which is to be of this kind and to have a meaning, and gives the meaning
unfoldable pub token : {A : Type 0} → TokenKind → (Place → List ℕ → Option A) → Reader A
token kind meaning = λ ts. meant (option_and_then (λ (next : Place × List ℕ). meaning next.0 next.1) (next_of kind ts)) (rest_of ts) ts
