-- The token that an error names. This project's own.
use Rattle.std.specs.Prelude.{◌≡◌, ℕ, zero, suc, ◌<◌, ◌-◌, ◌⊎◌, List, Result, Ok, Err}
use Rattle.std.specs.Str.{IsUtf8}
use Rattle.tydi_reading.specs.Faults.{IsRefusedAt, IsUnfitAt, IsCutOff}
use Rattle.til_lexer.specs.Tokens.{tokens_of}
use Rattle.til_lexer.specs.declared.token.Token.{Token}
use Rattle.til_parser.specs.Grammar.{Spells, IsWithin, SpellNone, most_levels}
use Rattle.til_parser.specs.Lexemes.{Lexeme, IsFormed, lexemes_of}
use Rattle.til_parser.specs.Nesting.{ProjectTo}
use Rattle.til_parser.specs.declared.tree.Ast.{Ast}
use Rattle.tydi_reading.specs.declared.fault.Fault.{Fault}
use Rattle.tydi_reading.specs.declared.fault.Fault.TheVariants as reading
use Rattle.til_parser.specs.declared.refusal.TooDeep.{TooDeep}
use Rattle.til_parser.specs.declared.fault.ParseFault.{ParseFault}
use Rattle.til_parser.specs.declared.fault.ParseFault.TheVariants as faults

-- a fault that names a token names one of so many, counted from 0
abbrev pub NamesToken : ℕ → ParseFault → Type 0
NamesToken count (faults.Unexpected index) = index < count
NamesToken count faults.EndOfText = Unit {0}
NamesToken count (faults.TooDeep index) = index < count
NamesToken count faults.Memory = Unit {0}

-- no token is left, or this one is refused
abbrev pub refused_at : ℕ → ℕ → ParseFault
refused_at zero index = faults.EndOfText
refused_at (suc left) index = faults.Unexpected index

-- the error of so many tokens, where so many are left
abbrev pub fault_at : Fault TooDeep → ℕ → ℕ → ParseFault
fault_at reading.Refused count left = refused_at left (count - left)
fault_at (reading.Unfit _) count left = faults.TooDeep (count - left)
fault_at reading.Memory count left = faults.Memory

-- the meaning of an error, by the texts of the grammar alone, whose types nest as deep as they like. The tokens before a refused
-- one go on to such a text, and with it they go on to none. Where the text ends, all tokens go on to one and are none. At one that
-- is too deep the first type begins that stands inside 64 others, and with it the tokens go on. Before the others no type stands so
-- deep.
abbrev pub IsFaultOf : List Lexeme → ParseFault → Type 0
IsFaultOf ts (faults.Unexpected index) = IsRefusedAt IsFormed Spells (ProjectTo most_levels) index ts
IsFaultOf ts faults.EndOfText = IsCutOff IsFormed Spells (ProjectTo most_levels) ts
IsFaultOf ts (faults.TooDeep index) = IsUnfitAt IsFormed Spells (ProjectTo most_levels) index ts
IsFaultOf ts faults.Memory = ⊥

-- parsing tokens with this error reports it, where there is memory
abbrev pub IsTold : List Lexeme → Result Ast ParseFault → Type 0
IsTold ts result = (fault : ParseFault) → IsFaultOf ts fault → (result ≡ Err fault) ⊎ (result ≡ Err faults.Memory)

-- ---- the laws

-- tokens spell a tree whose types nest no deeper than is allowed, or they have one fault, and not both
pub record TreeOrFault (ts : List Lexeme) : Type 0 where
  pub either : ((ast : Ast) × Spells ast ts × IsWithin most_levels ast) ⊎ ((fault : ParseFault) × IsFaultOf ts fault)
  pub apart : (fault : ParseFault) → IsFaultOf ts fault → SpellNone ts
  pub one : (fault other : ParseFault) → IsFaultOf ts fault → IsFaultOf ts other → fault ≡ other

-- the tokens of each text do
abbrev pub TreesOrFaults : Type 0
TreesOrFaults = (text : List ℕ) (tokens : List Token) → IsUtf8 text → tokens_of text ≡ Ok tokens → TreeOrFault (lexemes_of text tokens)
