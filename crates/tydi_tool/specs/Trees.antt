-- How the text of a project is read as its tree (this project's own).
use Rattle.std.specs.Prelude.{◌≡◌, ℕ, ◌⊎◌, Bool, true, false, List, Option, Some, None, option_map, slice_get, Result, Ok, Err, codes}
use Rattle.std.specs.Str.{is_utf8}
use Rattle.std.specs.Str.Lossy.{utf8_valid_len}
use Rattle.tydi_base.specs.declared.place.Place.{Place}
use Rattle.til_lexer.specs.Tokens.{tokens_of}
use Rattle.til_lexer.specs.declared.fault.LexFault.{LexFault}
use Rattle.til_lexer.specs.declared.token.Token.{Token}
use Rattle.til_parser.specs.Faults.{IsFaultOf}
use Rattle.til_parser.specs.Grammar.{Spells, IsWithin, most_levels}
use Rattle.til_parser.specs.Lexemes.{lexemes_of}
use Rattle.til_parser.specs.declared.fault.ParseFault.{ParseFault}
use Rattle.til_parser.specs.declared.fault.ParseFault.TheVariants as parsing
use Rattle.til_parser.specs.declared.tree.Ast.{Ast}
use Rattle.tydi_tool.specs.Reading.{RefusesBy}
use Rattle.tydi_tool.specs.Refusals.{Refusal, At, of_file, of_file_with, not_utf8, refusal_line, refusal_of_lexing}

-- the tokens of a text spell this tree, and its types nest no deeper than is allowed
pub record IsSpelled (text : List ℕ) (tokens : List Token) (ast : Ast) : Type 0 where
  pub spelled : Spells ast (lexemes_of text tokens)
  pub within : IsWithin most_levels ast

-- the place of the token of this number
abbrev pub place_of : List Token → ℕ → Option Place
place_of tokens index = option_map (λ token. token.place) (slice_get tokens index)

-- the refusal of tokens with this error of their tree; want of memory is none
abbrev pub refusal_of_parsing : List ℕ → List Token → ParseFault → Option Refusal
refusal_of_parsing word tokens (parsing.Unexpected index) = option_map (λ place. of_file_with (codes "Unexpected") word (At place)) (place_of tokens index)
refusal_of_parsing word tokens parsing.EndOfText = Some (of_file (codes "EndOfText") word)
refusal_of_parsing word tokens (parsing.TooDeep index) = option_map (λ place. of_file_with (codes "TooDeep") word (At place)) (place_of tokens index)
refusal_of_parsing word tokens parsing.Memory = None

pub record SpellsTree (text : List ℕ) (tokens : List Token) (read : Result Ast (List ℕ)) : Type 0 where
  pub ast : Ast
  pub is : IsSpelled text tokens ast
  pub says : read ≡ Ok ast

-- tokens that spell no such tree are refused for their fault
pub record SpellsNoTree (word text : List ℕ) (tokens : List Token) (read : Result Ast (List ℕ)) : Type 0 where
  pub none : (ast : Ast) → IsSpelled text tokens ast → ⊥
  pub fault : ParseFault
  pub is : IsFaultOf (lexemes_of text tokens) fault
  pub says : RefusesBy (refusal_of_parsing word tokens fault) read

-- by the tokens of a text, or the first error of them
abbrev pub ReadsTokens : List ℕ → List ℕ → Result (List Token) LexFault → Result Ast (List ℕ) → Type 0
ReadsTokens word text (Ok tokens) read = SpellsTree text tokens read ⊎ SpellsNoTree word text tokens read
ReadsTokens word text (Err fault) read = RefusesBy (refusal_of_lexing word fault) read

-- by whether bytes are UTF-8
abbrev pub ReadsCoded : List ℕ → List ℕ → Bool → Result Ast (List ℕ) → Type 0
ReadsCoded word bytes true read = ReadsTokens word bytes (tokens_of bytes) read
ReadsCoded word bytes false read = read ≡ Err (refusal_line (not_utf8 word (utf8_valid_len bytes)))

-- the text of a project is read as its tree
abbrev pub ReadsTree : List ℕ → List ℕ → Result Ast (List ℕ) → Type 0
ReadsTree word bytes read = ReadsCoded word bytes (is_utf8 bytes) read
