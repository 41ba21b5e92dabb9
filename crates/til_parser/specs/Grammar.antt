-- The grammar of the Tydi Intermediate Language: which tokens spell which tree, by recursion on the tree. It is this project's
-- own, after the published language. No reader is in it.
use Rattle.std.specs.Prelude.{◌≡◌, ◌≤◌, ◌<◌, ℕ, Bool, true, false, List, [], ◌∷◌, ◌++◌, length, Option, Some, None, IsTrue, codes}
use Rattle.std.specs.List.{list_all}
use Rattle.std.specs.Char.{is_ascii_digit}
use Rattle.tydi_base.specs.Decimal.{read_on}
use Rattle.tydi_base.specs.Frac.{Fraction, IsReduced}
use Rattle.tydi_base.specs.Level.{LevelNumbers, IsLevel, of_numbers, whole_level}
use Rattle.tydi_base.specs.Name.{is_name}
use Rattle.tydi_reading.specs.Forms.{◌⋯◌, Nothing, Optional}
use Rattle.tydi_reading.specs.Lists.{Each, EachIs, Separated, LastSeparator, Joined}
use Rattle.tydi_reading.specs.Named.{Named}
use Rattle.til_lexer.specs.declared.token.TokenKind.{TokenKind}
use Rattle.til_lexer.specs.declared.token.TokenKind.TheVariants as kinds
use Rattle.til_parser.specs.declared.keyword.Argument.{Argument}
use Rattle.til_parser.specs.declared.keyword.Argument.TheVariants as arguments
use Rattle.til_parser.specs.declared.ltype.AstSync.{AstSync}
use Rattle.til_parser.specs.declared.ltype.AstSync.TheVariants as syncs
use Rattle.til_parser.specs.declared.tree.Ast.{Ast}
use Rattle.til_parser.specs.declared.tree.AstBody.{AstBody}
use Rattle.til_parser.specs.declared.tree.AstBody.TheVariants as bodies
use Rattle.til_parser.specs.declared.tree.AstDecl.{AstDecl}
use Rattle.til_parser.specs.declared.tree.AstEnd.{AstEnd}
use Rattle.til_parser.specs.declared.tree.AstKind.{AstKind}
use Rattle.til_parser.specs.declared.tree.AstKind.TheVariants as decls
use Rattle.til_parser.specs.declared.tree.AstName.{AstName}
use Rattle.til_parser.specs.declared.tree.AstNamespace.{AstNamespace}
use Rattle.til_parser.specs.declared.tree.AstPort.{AstPort}
use Rattle.til_parser.specs.declared.tree.AstPorts.{AstPorts}
use Rattle.til_parser.specs.declared.tree.AstPorts.TheVariants as ports
use Rattle.til_parser.specs.declared.tree.AstStmt.{AstStmt}
use Rattle.til_parser.specs.declared.tree.AstStmt.TheVariants as stmts
use Rattle.til_parser.specs.Lexemes.{Lexeme, between_marks}
use Rattle.til_parser.specs.Numbers.{numerator_of, denominator_of, digit_runs}
use Rattle.til_parser.specs.Tree.{Ltype, null, bits, group, union, stream, path, Parts, no_parts, part, Settings, plain, depth}

-- which tokens have a form
abbrev pub Form : Type 1
Form = List Lexeme → Type 0

-- one token, which is such a one
pub record One (Is : Lexeme → Type 0) (ts : List Lexeme) : Type 0 where
  pub lexeme : Lexeme
  pub all : ts ≡ lexeme ∷ []
  pub is : Is lexeme

-- ---- tokens

-- a token of this kind
abbrev pub Of : TokenKind → Form
Of kind = One (λ lexeme. lexeme.kind ≡ kind)

-- a token is this word
pub record IsWord (word : List ℕ) (lexeme : Lexeme) : Type 0 where
  pub kind : lexeme.kind ≡ kinds.Word
  pub text : lexeme.spelling ≡ word

-- this word
abbrev pub Word : List ℕ → Form
Word word = One (IsWord word)

-- a word that is the name, at its place
pub record IsNamed (name : AstName) (lexeme : Lexeme) : Type 0 where
  pub kind : lexeme.kind ≡ kinds.Word
  pub text : lexeme.spelling ≡ name.name
  pub place : lexeme.place ≡ name.place
  pub named : IsTrue (is_name name.name)

-- a name, at its place
abbrev pub Name : AstName → Form
Name name = One (IsNamed name)

-- a number without a point, of this value
pub record IsWhole (whole : ℕ) (lexeme : Lexeme) : Type 0 where
  pub kind : lexeme.kind ≡ kinds.Number
  pub digits : IsTrue (list_all is_ascii_digit lexeme.spelling)
  pub value : whole ≡ read_on 0 lexeme.spelling

-- a whole number
abbrev pub Whole : ℕ → Form
Whole whole = One (IsWhole whole)

-- a number that is this fraction in lowest terms
pub record IsNumber (number : Fraction) (lexeme : Lexeme) : Type 0 where
  pub kind : lexeme.kind ≡ kinds.Number
  pub value : IsReduced (numerator_of lexeme.spelling) (denominator_of lexeme.spelling) number

-- a number, with a point or without
abbrev pub Number : Fraction → Form
Number number = One (IsNumber number)

-- a token of this kind with this text between its marks
pub record IsMarked (kind : TokenKind) (text : List ℕ) (lexeme : Lexeme) : Type 0 where
  pub kind_is : lexeme.kind ≡ kind
  pub text_is : text ≡ between_marks lexeme.spelling

-- a text between two quotation marks
abbrev pub Quoted : List ℕ → Form
Quoted text = One (IsMarked kinds.Quoted text)

-- documentation, if there is any
abbrev pub Doc : Option (List ℕ) → Form
Doc = Optional (λ text. One (IsMarked kinds.Doc text))

-- ---- lists

-- a comma, or none
abbrev pub LastComma : Form
LastComma = LastSeparator (Of kinds.Comma)

-- items with a comma between each two, and a last comma or none
abbrev pub Commas : {A : Type 0} → (A → Form) → List A → Form
Commas Item = Separated (Of kinds.Comma) Item

-- names with `::` between each two, one at least
abbrev pub Path : List AstName → Form
Path = Joined (Of kinds.DoubleColon) Name

-- in round brackets
abbrev pub Bracketed : Form → Form
Bracketed Inside = Of kinds.OpenParen ⋯ Inside ⋯ Of kinds.CloseParen

-- in braces
abbrev pub Braced : Form → Form
Braced Inside = Of kinds.OpenBrace ⋯ Inside ⋯ Of kinds.CloseBrace

-- ---- the arguments of a Stream

-- the word of an argument
abbrev pub argument_word : Argument → List ℕ
argument_word arguments.Data = codes "data"
argument_word arguments.Throughput = codes "throughput"
argument_word arguments.Dimensionality = codes "dimensionality"
argument_word arguments.Synchronicity = codes "synchronicity"
argument_word arguments.Complexity = codes "complexity"
argument_word arguments.Direction = codes "direction"
argument_word arguments.User = codes "user"
argument_word arguments.Keep = codes "keep"

-- the word of a synchronicity
abbrev pub sync_word : AstSync → List ℕ
sync_word syncs.Sync = codes "Sync"
sync_word syncs.Flatten = codes "Flatten"
sync_word syncs.Desync = codes "Desync"
sync_word syncs.FlatDesync = codes "FlatDesync"

-- the word of a direction: true for a Stream that is reversed
abbrev pub direction_word : Bool → List ℕ
direction_word true = codes "Reverse"
direction_word false = codes "Forward"

-- the word of a truth
abbrev pub truth_word : Bool → List ℕ
truth_word true = codes "true"
truth_word false = codes "false"

-- runs of digits, by value: one, or two
abbrev pub Runs : Type 0
Runs = ℕ × Option ℕ

-- a number with these runs of digits
pub record IsRuns (these : Runs) (lexeme : Lexeme) : Type 0 where
  pub kind : lexeme.kind ≡ kinds.Number
  pub runs : these ≡ digit_runs lexeme.spelling

-- the numbers that they are
abbrev pub numbers_from : ℕ → Option ℕ → List ℕ
numbers_from first None = first ∷ []
numbers_from first (Some second) = first ∷ second ∷ []

abbrev pub numbers_in : Runs → List ℕ
numbers_in runs = numbers_from runs.0 runs.1

abbrev pub later_numbers : Option Runs → List ℕ
later_numbers None = []
later_numbers (Some runs) = numbers_in runs

-- one number, or two with a point between them, whose runs of digits are the numbers of a level, four at most: those that are not written are 0
pub record Level (level : LevelNumbers) (ts : List Lexeme) : Type 0 where
  pub first : Runs
  pub later : Option Runs
  pub spelled : (One (IsRuns first) ⋯ Optional (λ (runs : Runs). Of kinds.Point ⋯ One (IsRuns runs)) later) ts
  pub numbers : level ≡ of_numbers (numbers_in first ++ later_numbers later)
  pub within : IsLevel level

-- the value that the Stream has for an argument
abbrev pub Held : Form → Form → Settings → Argument → Form
Held Element User settings arguments.Data = Element
Held Element User settings arguments.Throughput = Number settings.throughput
Held Element User settings arguments.Dimensionality = Whole settings.dims
Held Element User settings arguments.Synchronicity = Word (sync_word settings.sync)
Held Element User settings arguments.Complexity = Level settings.level
Held Element User settings arguments.Direction = Word (direction_word settings.reverse)
Held Element User settings arguments.User = User
Held Element User settings arguments.Keep = Word (truth_word settings.keep)

-- the argument of this name, with the value that the Stream has for it
abbrev pub Given : Form → Form → Settings → Argument → Form
Given Element User settings argument = Word (argument_word argument) ⋯ Of kinds.Colon ⋯ Held Element User settings argument

-- the Stream has the default of the argument; the data type has none
abbrev pub IsDefault : Ltype → Settings → Argument → Type 0
IsDefault user settings arguments.Data = ⊥
IsDefault user settings arguments.Throughput = settings.throughput ≡ record { num = 1; den = 1 }
IsDefault user settings arguments.Dimensionality = settings.dims ≡ 0
IsDefault user settings arguments.Synchronicity = settings.sync ≡ syncs.Sync
IsDefault user settings arguments.Complexity = settings.level ≡ whole_level 4
IsDefault user settings arguments.Direction = settings.reverse ≡ false
IsDefault user settings arguments.User = user ≡ null
IsDefault user settings arguments.Keep = settings.keep ≡ false

-- arguments in some order, each at most once; one that is not written has its default
abbrev pub Arguments : Form → Form → Ltype → Settings → Form
Arguments Element User user settings = Named (Of kinds.Comma) (Given Element User settings) (IsDefault user settings)

-- ---- types

abbrev mutual
  -- tokens spell a type
  pub SpellsType : Ltype → Form
  SpellsType null = Word (codes "Null")
  SpellsType (bits width) = Word (codes "Bits") ⋯ Bracketed (Whole width)
  SpellsType (group parts) = Word (codes "Group") ⋯ Bracketed (SpellsParts parts)
  SpellsType (union parts) = Word (codes "Union") ⋯ Bracketed (SpellsParts parts)
  SpellsType (stream element user settings) = Word (codes "Stream") ⋯ Bracketed (Arguments (SpellsType element) (SpellsType user) user settings)
  SpellsType (path names) = Path names

  -- parts with a comma between each two, and a last comma or none
  pub SpellsParts : Parts → Form
  SpellsParts no_parts = Nothing
  SpellsParts (part name ltype no_parts) = (Name name ⋯ Of kinds.Colon ⋯ SpellsType ltype) ⋯ LastComma
  SpellsParts (part name ltype (part next other more)) =
      (Name name ⋯ Of kinds.Colon ⋯ SpellsType ltype) ⋯ Of kinds.Comma ⋯ SpellsParts (part next other more)

-- ---- ports and bodies

-- the word of a way: true for a port that goes in
abbrev pub way_word : Bool → List ℕ
way_word true = codes "in"
way_word false = codes "out"

-- tokens spell a port
abbrev pub SpellsPort : AstPort → Form
SpellsPort port = Doc port.doc ⋯ Name port.name ⋯ Of kinds.Colon ⋯ Word (way_word port.inward) ⋯ SpellsType (plain port.ltype)

-- tokens spell a list of ports in brackets
abbrev pub SpellsPorts : List AstPort → Form
SpellsPorts all = Bracketed (Commas SpellsPort all)

-- a second name after a point, if there is any
abbrev pub Second : Option AstName → Form
Second = Optional (λ name. Of kinds.Point ⋯ Name name)

-- tokens spell an end of a link: one name, or two with a point between
abbrev pub SpellsEnd : AstEnd → Form
SpellsEnd end = Name end.first ⋯ Second end.second

-- tokens spell a statement: an instance, or a link
abbrev pub SpellsStmt : AstStmt → Form
SpellsStmt (stmts.Instance name streamlet) = Name name ⋯ Of kinds.Equals ⋯ Path streamlet.names ⋯ Of kinds.Semicolon
SpellsStmt (stmts.Link first second) = SpellsEnd first ⋯ Of kinds.DoubleDash ⋯ SpellsEnd second ⋯ Of kinds.Semicolon

-- tokens spell the body of an implementation
abbrev pub SpellsBody : AstBody → Form
SpellsBody (bodies.Linked text) = Quoted text
SpellsBody (bodies.Structural all) = Braced (Each SpellsStmt all)

-- ---- declarations

-- tokens spell the ports of a streamlet: its own, or the path of an interface
abbrev pub SpellsStreamletPorts : AstPorts → Form
SpellsStreamletPorts (ports.Own all) = SpellsPorts all
SpellsStreamletPorts (ports.Named target) = Path target.names

-- tokens spell a declaration of this name, up to its semicolon
abbrev pub SpellsKind : AstName → AstKind → Form
SpellsKind name (decls.Alias ltype) = Word (codes "type") ⋯ Name name ⋯ Of kinds.Equals ⋯ SpellsType (plain ltype)
SpellsKind name (decls.Interface all) = Word (codes "interface") ⋯ Name name ⋯ Of kinds.Equals ⋯ SpellsPorts all
SpellsKind name (decls.Streamlet all) = Word (codes "streamlet") ⋯ Name name ⋯ Of kinds.Equals ⋯ SpellsStreamletPorts all
SpellsKind name (decls.Impl target body) =
    Word (codes "impl") ⋯ Name name ⋯ Word (codes "of") ⋯ Path target.names ⋯ Of kinds.Equals ⋯ SpellsBody body
SpellsKind name (decls.Test target port value plan) =
    Word (codes "test") ⋯ Name name ⋯ Word (codes "of") ⋯ Path target.names ⋯ Word (codes "drive") ⋯ Name port
    ⋯ Of kinds.Equals ⋯ Quoted value ⋯ Word (codes "plan") ⋯ Quoted plan

-- tokens spell a declaration
abbrev pub SpellsDecl : AstDecl → Form
SpellsDecl decl = Doc decl.doc ⋯ SpellsKind decl.name decl.kind ⋯ Of kinds.Semicolon

-- tokens spell a namespace
abbrev pub SpellsNamespace : AstNamespace → Form
SpellsNamespace namespace = Doc namespace.doc ⋯ Word (codes "namespace") ⋯ Path namespace.path.names ⋯ Braced (Each SpellsDecl namespace.decls)

-- tokens spell a project: its namespaces, one at least
pub record Spells (ast : Ast) (ts : List Lexeme) : Type 0 where
  pub some : 0 < length ast.namespaces
  pub each : Each SpellsNamespace ast.namespaces ts

-- ---- how deep types nest

-- the types of ports nest no deeper than so many levels
abbrev pub PortsWithin : ℕ → List AstPort → Type 0
PortsWithin levels = EachIs (λ port. depth (plain port.ltype) ≤ levels)

-- the types of a streamlet's own ports nest no deeper than so many levels
abbrev pub StreamletWithin : ℕ → AstPorts → Type 0
StreamletWithin levels (ports.Own all) = PortsWithin levels all
StreamletWithin levels (ports.Named target) = Unit {0}

-- the types of a declaration nest no deeper than so many levels
abbrev pub KindWithin : ℕ → AstKind → Type 0
KindWithin levels (decls.Alias ltype) = depth (plain ltype) ≤ levels
KindWithin levels (decls.Interface all) = PortsWithin levels all
KindWithin levels (decls.Streamlet all) = StreamletWithin levels all
KindWithin levels (decls.Impl target body) = Unit {0}
KindWithin levels (decls.Test target port value plan) = Unit {0}

-- the types of declarations nest no deeper than so many levels
abbrev pub DeclsWithin : ℕ → List AstDecl → Type 0
DeclsWithin levels = EachIs (λ decl. KindWithin levels decl.kind)

-- the types of namespaces nest no deeper than so many levels
abbrev pub NamespacesWithin : ℕ → List AstNamespace → Type 0
NamespacesWithin levels = EachIs (λ namespace. DeclsWithin levels namespace.decls)

-- no type of the project nests deeper than so many levels
abbrev pub IsWithin : ℕ → Ast → Type 0
IsWithin levels ast = NamespacesWithin levels ast.namespaces

-- how deep types may nest
abbrev pub most_levels : ℕ
most_levels = 64

-- tokens spell no project whose types nest so deep at most
abbrev pub SpellNone : List Lexeme → Type 0
SpellNone ts = (ast : Ast) → Spells ast ts → IsWithin most_levels ast → ⊥
