-- How `parse` reads names, numbers, paths and types. No public clause names these. This project's own.
use Rattle.std.specs.Prelude.{ℕ, zero, suc, nat_lt, ◌&&◌, Bool, true, false, List, [], ◌∷◌, ◌++◌, Option, Some, None}
use Rattle.std.specs.Prelude.{option_map, option_and_then, if◌then◌else◌, codes}
use Rattle.std.specs.Option.{is_some, unwrap_or}
use Rattle.std.specs.Str.{bytes_eq}
use Rattle.tydi_base.specs.Decimal.{read_on, below}
use Rattle.tydi_base.specs.Level.{LevelNumbers, of_numbers, whole_level}
use Rattle.tydi_base.specs.Name.{name_of}
use Rattle.tydi_base.specs.Frac.{Fraction}
use Rattle.tydi_base.specs.declared.place.Place.{Place}
use Rattle.tydi_reading.specs.Lists.{steps, joined}
use Rattle.tydi_reading.specs.Named.{named}
use Rattle.tydi_reading.specs.Reading.{◌>>◌, ◌<$>◌, ◌<&>◌, ◌<<◌, pure, checked, led, optional, unfit}
use Rattle.til_lexer.specs.declared.token.TokenKind.{TokenKind}
use Rattle.til_lexer.specs.declared.token.TokenKind.TheVariants as kinds
use Rattle.til_parser.specs.declared.arguments.Arguments.{Arguments}
use Rattle.til_parser.specs.declared.keyword.Argument.{Argument}
use Rattle.til_parser.specs.declared.keyword.Argument.TheVariants as arguments
use Rattle.til_parser.specs.declared.keyword.TypeWord.{TypeWord}
use Rattle.til_parser.specs.declared.keyword.TypeWord.TheVariants as words
use Rattle.til_parser.specs.declared.ltype.AstType.{AstType}
use Rattle.til_parser.specs.declared.ltype.AstType.TheVariants as types
use Rattle.til_parser.specs.declared.ltype.AstPart.{AstPart, roll-AstPart}
use Rattle.til_parser.specs.declared.ltype.AstStream.{AstStream, roll-AstStream}
use Rattle.til_parser.specs.declared.ltype.AstSync.{AstSync}
use Rattle.til_parser.specs.declared.ltype.AstSync.TheVariants as syncs
use Rattle.til_parser.specs.declared.tree.AstName.{AstName}
use Rattle.til_parser.specs.declared.tree.AstPath.{AstPath}
use Rattle.til_parser.specs.Grammar.{Runs, numbers_in, later_numbers}
use Rattle.til_parser.specs.Lexemes.{between_marks}
use Rattle.til_parser.specs.Numbers.{whole_of, digits_before, digits_behind, numerator_of, denominator_of, lowest}
use Rattle.til_parser.specs.Words.{sync_of, type_word_at, argument_at}
use Rattle.til_parser.specs.Reading.{Reader, is_kind, begins_type, expect, token}

-- ---- names and numbers

-- a name with its place
abbrev pub name_at : Place → Option (List ℕ) → Option AstName
name_at place None = None
name_at place (Some name) = Some (record { name = name; place = place })

-- a word that is a name
abbrev pub name : Reader AstName
name = token kinds.Word (λ place spelling. name_at place (name_of spelling))

-- a number without a point
abbrev pub whole : Reader ℕ
whole = token kinds.Number (λ place spelling. whole_of spelling)

-- a number, in lowest terms
abbrev pub number : Reader Fraction
number = token kinds.Number (λ place spelling. Some (lowest (numerator_of spelling) (denominator_of spelling)))

-- the number that digits spell, where it is at most 255
abbrev pub byte_of : List ℕ → Option ℕ
byte_of digits = below 256 (Some (read_on 0 digits))

-- the number behind a point, where there is one
abbrev pub second_run : List ℕ → Option (Option ℕ)
second_run [] = Some None
second_run (digit ∷ digits) = option_map Some (byte_of (digit ∷ digits))

-- the runs of digits of a number, by value, where none is over 255
abbrev pub runs_of : List ℕ → Option Runs
runs_of number = option_and_then (λ first. option_map (λ second. (first, second)) (second_run (digits_behind number))) (byte_of (digits_before number))

-- such runs where the first is 1 to 8
abbrev pub if_first : Runs → Option Runs
if_first runs = if nat_lt 0 runs.0 && nat_lt runs.0 9 then Some runs else None

-- a number with which a level may begin
abbrev pub first_runs : Reader Runs
first_runs = token kinds.Number (λ place spelling. option_and_then if_first (runs_of spelling))

-- a number with which a level goes on
abbrev pub runs : Reader Runs
runs = token kinds.Number (λ place spelling. runs_of spelling)

-- a point and such a number, or none
unfoldable pub later_runs : Reader (Option Runs)
later_runs = optional (is_kind kinds.Point) (expect kinds.Point >> runs)

-- the level of a number's runs and of those of a second one, if there is one
abbrev pub level_of : Runs × Option Runs → LevelNumbers
level_of runs = of_numbers (numbers_in runs.0 ++ later_numbers runs.1)

-- a level
unfoldable pub level : Reader LevelNumbers
level = level_of <$> (first_runs <&> later_runs)

-- the text between the marks of a token of this kind
abbrev pub marked : TokenKind → Reader (List ℕ)
marked kind = token kind (λ place spelling. Some (between_marks spelling))

-- the text of a quoted text
abbrev pub quoted : Reader (List ℕ)
quoted = marked kinds.Quoted

-- the text of documentation, if there is any
unfoldable pub doc : Reader (Option (List ℕ))
doc = optional (is_kind kinds.Doc) (marked kinds.Doc)

-- ---- paths and lists

-- a path
unfoldable pub path : Reader AstPath
path = (λ names. record { names = names }) <$> joined (is_kind kinds.DoubleColon) name

-- one item more, behind those that are found
abbrev pub one_more : {A : Type 0} → Reader A → List A → Reader (List A)
one_more item found = (λ x. found ++ x ∷ []) <$> item

-- steps with commas between brackets
unfoldable pub bracketed_steps : {S : Type 0} → (S → Reader S) → S → Reader S
bracketed_steps step start = expect kinds.OpenParen >> (steps (is_kind kinds.CloseParen) false (is_kind kinds.Comma) step start << expect kinds.CloseParen)

-- a list with commas between its brackets
abbrev pub bracketed : {A : Type 0} → Reader A → Reader (List A)
bracketed item = bracketed_steps (one_more item) []

-- ---- the arguments of a Stream

-- a synchronicity
abbrev pub sync : Reader AstSync
sync = token kinds.Word (λ place spelling. sync_of spelling)

-- which of two words a word is: true for the first
abbrev pub either_of : List ℕ → List ℕ → List ℕ → Option Bool
either_of first second word = if bytes_eq word first then Some true else if bytes_eq word second then Some false else None

-- which of two words stands next
abbrev pub either_word : List ℕ → List ℕ → Reader Bool
either_word first second = token kinds.Word (λ place spelling. either_of first second spelling)

-- no argument is given yet
abbrev pub none_given : Arguments
none_given = record { element = None; throughput = None; dims = None; sync = None; level = None; reverse = None; user = None; keep = None }

-- the type of the value of an argument
abbrev pub Value : Argument → Type 0
Value arguments.Data = AstType
Value arguments.Throughput = Fraction
Value arguments.Dimensionality = ℕ
Value arguments.Synchronicity = AstSync
Value arguments.Complexity = LevelNumbers
Value arguments.Direction = Bool
Value arguments.User = AstType
Value arguments.Keep = Bool

-- the value that is given for an argument
abbrev pub field : (name : Argument) → Arguments → Option (Value name)
field arguments.Data given = given.element
field arguments.Throughput given = given.throughput
field arguments.Dimensionality given = given.dims
field arguments.Synchronicity given = given.sync
field arguments.Complexity given = given.level
field arguments.Direction given = given.reverse
field arguments.User given = given.user
field arguments.Keep given = given.keep

-- a value is given for an argument
abbrev pub put : (name : Argument) → Value name → Arguments → Arguments
put arguments.Data x given = record given { element = Some x }
put arguments.Throughput x given = record given { throughput = Some x }
put arguments.Dimensionality x given = record given { dims = Some x }
put arguments.Synchronicity x given = record given { sync = Some x }
put arguments.Complexity x given = record given { level = Some x }
put arguments.Direction x given = record given { reverse = Some x }
put arguments.User x given = record given { user = Some x }
put arguments.Keep x given = record given { keep = Some x }

-- there is a value for an argument
abbrev pub is_given : Argument → Arguments → Bool
is_given arguments.Data given = is_some given.element
is_given arguments.Throughput given = is_some given.throughput
is_given arguments.Dimensionality given = is_some given.dims
is_given arguments.Synchronicity given = is_some given.sync
is_given arguments.Complexity given = is_some given.level
is_given arguments.Direction given = is_some given.reverse
is_given arguments.User given = is_some given.user
is_given arguments.Keep given = is_some given.keep

-- the value of an argument; the reader is that of the types inside
abbrev pub value_of : Reader AstType → (name : Argument) → Reader (Value name)
value_of inner arguments.Data = inner
value_of inner arguments.Throughput = number
value_of inner arguments.Dimensionality = whole
value_of inner arguments.Synchronicity = sync
value_of inner arguments.Complexity = level
value_of inner arguments.Direction = either_word (codes "Reverse") (codes "Forward")
value_of inner arguments.User = inner
value_of inner arguments.Keep = either_word (codes "true") (codes "false")

-- a colon and the value of an argument, which is put beside those that are given
abbrev added : Reader AstType → Argument → Arguments → Reader Arguments
added inner name given = (λ x. put name x given) <$> (expect kinds.Colon >> value_of inner name)

-- the same, by cases on the argument
abbrev pub value : Reader AstType → Argument → Arguments → Reader Arguments
value inner arguments.Data given = added inner arguments.Data given
value inner arguments.Throughput given = added inner arguments.Throughput given
value inner arguments.Dimensionality given = added inner arguments.Dimensionality given
value inner arguments.Synchronicity given = added inner arguments.Synchronicity given
value inner arguments.Complexity given = added inner arguments.Complexity given
value inner arguments.Direction given = added inner arguments.Direction given
value inner arguments.User given = added inner arguments.User given
value inner arguments.Keep given = added inner arguments.Keep given

-- arguments with commas, up to a closing bracket
abbrev pub arguments_from : Reader AstType → Arguments → Reader Arguments
arguments_from inner = named (is_kind kinds.CloseParen) false (is_kind kinds.Comma) argument_at is_given (value inner)

-- the Stream of these arguments, the defaults filled in: throughput 1, dimensionality 0, Sync, complexity 4, Forward, user Null,
-- keep false
abbrev pub filled : AstType → Arguments → AstStream
filled element given = roll-AstStream (record {
  element = element;
  throughput = unwrap_or given.throughput (lowest 1 1);
  dims = unwrap_or given.dims 0;
  sync = unwrap_or given.sync syncs.Sync;
  level = unwrap_or given.level (whole_level 4);
  reverse = unwrap_or given.reverse false;
  user = unwrap_or given.user types.Null;
  keep = unwrap_or given.keep false;
})

-- the Stream of these arguments, where they have a data type
abbrev pub stream_of : Arguments → Option AstStream
stream_of given = option_map (λ element. filled element given) given.element

-- the arguments of a Stream in brackets
unfoldable pub stream : Reader AstType → Reader AstStream
stream inner = expect kinds.OpenParen >> (checked stream_of (arguments_from inner none_given) << expect kinds.CloseParen)

-- ---- types

-- a width in brackets
unfoldable pub bits : Reader ℕ
bits = expect kinds.OpenParen >> (whole << expect kinds.CloseParen)

-- a part: a name and a type
unfoldable pub part : Reader AstType → Reader AstPart
part inner = (λ (p : AstName × AstType). roll-AstPart (record { name = p.0; ltype = p.1 })) <$> (name <&> (expect kinds.Colon >> inner))

-- the part of a type after its word, by the reader of the types inside it
abbrev pub type_after : Reader AstType → TypeWord → Reader AstType
type_after inner words.Null = pure types.Null
type_after inner words.Bits = types.Bits <$> bits
type_after inner words.Group = types.Group <$> bracketed (part inner)
type_after inner words.Union = types.Union <$> bracketed (part inner)
type_after inner words.Stream = types.Stream <$> stream inner

-- a type, by the reader of the types inside it
unfoldable pub type_with : Reader AstType → Reader AstType
type_with inner = led type_word_at (type_after inner) (types.Path <$> path)

-- a type of at most so many levels; one that stands inside as many others as are allowed is too deep
unfoldable pub ltype : ℕ → Reader AstType
ltype zero = unfit (record {}) begins_type
ltype (suc levels) = type_with (ltype levels)
