-- A parser stands for the tokens that it has not taken.
use Rattle.std.specs.Prelude.{List, All}
use Rattle.til_lexer.specs.Slices.{IsTokenOf}
use Rattle.til_parser.specs.declared.parser.Parser.TheInside.{Inside}
use Rattle.til_parser.specs.Lexemes.{Lexeme, lexemes_of, HasFormIn}

-- the tokens that are not taken
abbrev pub tokens_left : Inside → List Lexeme
tokens_left parser = lexemes_of parser.text.now parser.rest.now

-- the tokens that are left are of its text and have their form
pub record IsReady (parser : Inside) : Type 0 where
  pub each : All (IsTokenOf parser.text.now) parser.rest.now
  pub formed : All (HasFormIn parser.text.now) parser.rest.now

-- as a source: what it stands for is what is left
abbrev pub tokens : List Lexeme → List Lexeme
tokens left = left
