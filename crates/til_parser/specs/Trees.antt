-- Which trees texts spell, their places aside: a condition on the tree alone. The condition on names is a parameter, so that it
-- serves for their places too. This project's own.
use Rattle.std.specs.Prelude.{◌<◌, ◌+◌, ◌^◌, ℕ, List, [], ◌∷◌, length, Option, Some, None, IsTrue}
use Rattle.std.specs.Str.{IsUtf8}
use Rattle.tydi_base.specs.Frac.{Fraction, IsReduced}
use Rattle.tydi_base.specs.Level.{IsLevel}
use Rattle.tydi_base.specs.Name.{is_name}
use Rattle.tydi_base.specs.Pieces.{Lacks}
use Rattle.tydi_reading.specs.Lists.{EachIs}
use Rattle.til_lexer.specs.Spelling.{HasForm}
use Rattle.til_lexer.specs.declared.token.TokenKind.TheVariants as kinds
use Rattle.til_parser.specs.declared.tree.Ast.{Ast}
use Rattle.til_parser.specs.declared.tree.AstBody.{AstBody}
use Rattle.til_parser.specs.declared.tree.AstBody.TheVariants as bodies
use Rattle.til_parser.specs.declared.tree.AstDecl.{AstDecl}
use Rattle.til_parser.specs.declared.tree.AstEnd.{AstEnd}
use Rattle.til_parser.specs.declared.tree.AstKind.{AstKind}
use Rattle.til_parser.specs.declared.tree.AstKind.TheVariants as decls
use Rattle.til_parser.specs.declared.tree.AstName.{AstName}
use Rattle.til_parser.specs.declared.tree.AstNamespace.{AstNamespace}
use Rattle.til_parser.specs.declared.tree.AstPort.{AstPort}
use Rattle.til_parser.specs.declared.tree.AstPorts.{AstPorts}
use Rattle.til_parser.specs.declared.tree.AstPorts.TheVariants as ports
use Rattle.til_parser.specs.declared.tree.AstStmt.{AstStmt}
use Rattle.til_parser.specs.declared.tree.AstStmt.TheVariants as stmts
use Rattle.til_parser.specs.Grammar.{IsWithin, most_levels}
use Rattle.til_parser.specs.Numbers.{numerator_of, denominator_of}
use Rattle.til_parser.specs.Tree.{Ltype, null, bits, group, union, stream, path, Parts, no_parts, part, Settings, plain}

-- ---- names, texts and numbers

-- a name is one
abbrev pub HasName : AstName → Type 0
HasName name = IsTrue (is_name name.name)

-- such names, one at least
pub record PathWith (Named : AstName → Type 0) (names : List AstName) : Type 0 where
  pub some : 0 < length names
  pub each : EachIs Named names

abbrev pub IsPath : List AstName → Type 0
IsPath = PathWith HasName

-- a text that may stand between two such marks: UTF-8, without such a mark
pub record FitsBetween (mark : ℕ) (text : List ℕ) : Type 0 where
  pub lacks : Lacks mark text
  pub utf8 : IsUtf8 text

-- documentation may stand between two `#`
abbrev pub IsDoc : Option (List ℕ) → Type 0
IsDoc None = Unit {0}
IsDoc (Some text) = FitsBetween 35 text

-- a quoted text may stand between two `"`
abbrev pub IsQuote : List ℕ → Type 0
IsQuote = FitsBetween 34

-- a text is a number of this value
pub record IsNumberText (number : Fraction) (text : List ℕ) : Type 0 where
  pub form : HasForm kinds.Number text
  pub value : IsReduced (numerator_of text) (denominator_of text) number

-- a number with a text, which has at most 18 digits
pub record IsSpelledNumber (number : Fraction) : Type 0 where
  pub text : List ℕ
  pub spelled : IsNumberText number text

-- a whole number of at most 18 digits
abbrev pub IsShort : ℕ → Type 0
IsShort whole = whole < 10 ^ 18

-- ---- types

-- the arguments of a Stream that hold no type
pub record AreSettings (settings : Settings) : Type 0 where
  pub throughput : IsSpelledNumber settings.throughput
  pub dims : IsShort settings.dims
  pub level : IsLevel settings.level

abbrev mutual
  pub TypeWith : (AstName → Type 0) → Ltype → Type 0
  TypeWith Named null = Unit {0}
  TypeWith Named (bits width) = IsShort width
  TypeWith Named (group parts) = PartsWith Named parts
  TypeWith Named (union parts) = PartsWith Named parts
  TypeWith Named (stream element user settings) = TypeWith Named element × TypeWith Named user × AreSettings settings
  TypeWith Named (path names) = PathWith Named names

  pub PartsWith : (AstName → Type 0) → Parts → Type 0
  PartsWith Named no_parts = Unit {0}
  PartsWith Named (part name ltype more) = Named name × TypeWith Named ltype × PartsWith Named more

abbrev pub IsType : Ltype → Type 0
IsType = TypeWith HasName

abbrev pub AreParts : Parts → Type 0
AreParts = PartsWith HasName

-- ---- ports and bodies

pub record PortWith (Named : AstName → Type 0) (port : AstPort) : Type 0 where
  pub doc : IsDoc port.doc
  pub name : Named port.name
  pub ltype : TypeWith Named (plain port.ltype)

abbrev pub IsPort : AstPort → Type 0
IsPort = PortWith HasName

abbrev pub SecondWith : (AstName → Type 0) → Option AstName → Type 0
SecondWith Named None = Unit {0}
SecondWith Named (Some name) = Named name

abbrev pub IsSecond : Option AstName → Type 0
IsSecond = SecondWith HasName

abbrev pub EndWith : (AstName → Type 0) → AstEnd → Type 0
EndWith Named end = Named end.first × SecondWith Named end.second

abbrev pub IsEnd : AstEnd → Type 0
IsEnd = EndWith HasName

abbrev pub StmtWith : (AstName → Type 0) → AstStmt → Type 0
StmtWith Named (stmts.Instance name streamlet) = Named name × PathWith Named streamlet.names
StmtWith Named (stmts.Link first second) = EndWith Named first × EndWith Named second

abbrev pub IsStmt : AstStmt → Type 0
IsStmt = StmtWith HasName

abbrev pub BodyWith : (AstName → Type 0) → AstBody → Type 0
BodyWith Named (bodies.Linked text) = IsQuote text
BodyWith Named (bodies.Structural all) = EachIs (StmtWith Named) all

abbrev pub IsBody : AstBody → Type 0
IsBody = BodyWith HasName

-- ---- declarations

abbrev pub StreamletWith : (AstName → Type 0) → AstPorts → Type 0
StreamletWith Named (ports.Own all) = EachIs (PortWith Named) all
StreamletWith Named (ports.Named target) = PathWith Named target.names

abbrev pub ArePorts : AstPorts → Type 0
ArePorts = StreamletWith HasName

abbrev pub KindWith : (AstName → Type 0) → AstKind → Type 0
KindWith Named (decls.Alias ltype) = TypeWith Named (plain ltype)
KindWith Named (decls.Interface all) = EachIs (PortWith Named) all
KindWith Named (decls.Streamlet all) = StreamletWith Named all
KindWith Named (decls.Impl target body) = PathWith Named target.names × BodyWith Named body
KindWith Named (decls.Test target port value plan) = PathWith Named target.names × Named port × IsQuote value × IsQuote plan

abbrev pub IsKind : AstKind → Type 0
IsKind = KindWith HasName

pub record DeclWith (Named : AstName → Type 0) (decl : AstDecl) : Type 0 where
  pub doc : IsDoc decl.doc
  pub name : Named decl.name
  pub kind : KindWith Named decl.kind

abbrev pub IsDecl : AstDecl → Type 0
IsDecl = DeclWith HasName

pub record NamespaceWith (Named : AstName → Type 0) (namespace : AstNamespace) : Type 0 where
  pub doc : IsDoc namespace.doc
  pub path : PathWith Named namespace.path.names
  pub decls : EachIs (DeclWith Named) namespace.decls

abbrev pub IsNamespace : AstNamespace → Type 0
IsNamespace = NamespaceWith HasName

-- ---- projects

-- a tree that some text spells, places aside
pub record IsSpellable (ast : Ast) : Type 0 where
  pub some : 0 < length ast.namespaces
  pub each : EachIs IsNamespace ast.namespaces

-- how many declarations namespaces have
abbrev pub number_of_decls : List AstNamespace → ℕ
number_of_decls [] = 0
number_of_decls (namespace ∷ more) = length namespace.decls + number_of_decls more

-- a tree as `parse` gives them: one that some text spells, places aside, whose types nest no deeper than is allowed, with fewer than
-- 2 ^ 32 declarations
pub record IsTree (ast : Ast) : Type 0 where
  pub spellable : IsSpellable ast
  pub within : IsWithin most_levels ast
  pub few : number_of_decls ast.namespaces < 2 ^ 32
