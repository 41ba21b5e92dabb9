-- The canonical text of a tree, by recursion on the tree. This project's own.
use Rattle.std.specs.Prelude.{ℕ, zero, suc, ◌+◌, ◌*◌, ◌/◌, ◌%◌, ◌==◌, List, [], ◌∷◌, ◌++◌, drop, Option, Some, None}
use Rattle.std.specs.Prelude.{if◌then◌else◌, codes, decimal}
use Rattle.std.specs.List.{flat_map}
use Rattle.tydi_base.specs.Frac.{Fraction}
use Rattle.tydi_base.specs.Level.{level_text}
use Rattle.til_parser.specs.declared.ltype.AstPart.{AstPart}
use Rattle.til_parser.specs.declared.ltype.AstStream.{AstStream}
use Rattle.til_parser.specs.declared.tree.Ast.{Ast}
use Rattle.til_parser.specs.declared.tree.AstBody.{AstBody}
use Rattle.til_parser.specs.declared.tree.AstBody.TheVariants as bodies
use Rattle.til_parser.specs.declared.tree.AstDecl.{AstDecl}
use Rattle.til_parser.specs.declared.tree.AstEnd.{AstEnd}
use Rattle.til_parser.specs.declared.tree.AstKind.{AstKind}
use Rattle.til_parser.specs.declared.tree.AstKind.TheVariants as decls
use Rattle.til_parser.specs.declared.tree.AstName.{AstName}
use Rattle.til_parser.specs.declared.tree.AstNamespace.{AstNamespace}
use Rattle.til_parser.specs.declared.tree.AstPort.{AstPort}
use Rattle.til_parser.specs.declared.tree.AstPorts.{AstPorts}
use Rattle.til_parser.specs.declared.tree.AstPorts.TheVariants as ports
use Rattle.til_parser.specs.declared.tree.AstStmt.{AstStmt}
use Rattle.til_parser.specs.declared.tree.AstStmt.TheVariants as stmts
use Rattle.til_parser.specs.Grammar.{sync_word, direction_word, truth_word, way_word}
use Rattle.til_parser.specs.Tree.{Ltype, null, bits, group, union, stream, path, Parts, no_parts, part, Settings, plain, settings_of}

-- one text and then another, from the right: so a text is its first part and then the others
infixr 6 ◌⁀◌
abbrev pub ◌⁀◌ : List ℕ → List ℕ → List ℕ
one ⁀ other = one ++ other

-- a text without its first two bytes: things with two bytes before each then have these between each two
abbrev pub but_first : List ℕ → List ℕ
but_first text = drop 2 text

-- ---- numbers

-- the digits behind the point of what is left of a division, at most so many: by long division, up to where nothing is left
unfoldable pub digits_of_rest : ℕ → ℕ → ℕ → List ℕ
digits_of_rest zero rest den = []
digits_of_rest (suc most) rest den =
    if rest == 0 then [] else (48 + 10 * rest / den) ∷ digits_of_rest most (10 * rest % den) den

-- a point and digits, or nothing where there are none
abbrev pub behind_point : List ℕ → List ℕ
behind_point [] = []
behind_point (digit ∷ digits) = 46 ∷ digit ∷ digits

-- the most digits behind the point: a number of a text has no more
abbrev pub most_digits : ℕ
most_digits = 18

-- a fraction with the fewest digits, without a point where it is whole
abbrev pub number_text : Fraction → List ℕ
number_text number = decimal (number.num / number.den) ++ behind_point (digits_of_rest most_digits (number.num % number.den) number.den)

-- ---- types

-- the names of a path, with `::` between each two
abbrev pub names_text : List AstName → List ℕ
names_text names = but_first (flat_map (λ (name : AstName). codes "::" ++ name.name) names)

-- the arguments of a Stream that follow its data type, up to its user type, and what follows them
abbrev pub settings_text : Settings → List ℕ → List ℕ
settings_text settings after =
    codes ", throughput: " ⁀ number_text settings.throughput
    ⁀ codes ", dimensionality: " ⁀ decimal settings.dims
    ⁀ codes ", synchronicity: " ⁀ sync_word settings.sync
    ⁀ codes ", complexity: " ⁀ level_text settings.level
    ⁀ codes ", direction: " ⁀ direction_word settings.reverse
    ⁀ codes ", user: " ⁀ after

abbrev mutual
  -- a type; of a Stream all arguments, in the order of the grammar
  pub type_text : Ltype → List ℕ
  type_text null = codes "Null"
  type_text (bits width) = codes "Bits(" ⁀ decimal width ⁀ codes ")"
  type_text (group parts) = codes "Group(" ⁀ but_first (more_parts_text parts) ⁀ codes ")"
  type_text (union parts) = codes "Union(" ⁀ but_first (more_parts_text parts) ⁀ codes ")"
  type_text (stream element user settings) = codes "Stream(data: "
      ⁀ (type_text element ⁀ settings_text settings (type_text user ⁀ codes ", keep: " ⁀ truth_word settings.keep)) ⁀ codes ")"
  type_text (path names) = names_text names

  -- parts with a comma and a space before each
  pub more_parts_text : Parts → List ℕ
  more_parts_text no_parts = []
  more_parts_text (part name ltype more) = (codes ", " ⁀ name.name ⁀ codes ": " ⁀ type_text ltype) ++ more_parts_text more

-- a part: its name and its type
abbrev pub part_text : AstPart → List ℕ
part_text one = one.name.name ⁀ codes ": " ⁀ type_text (plain one.ltype)

-- a part that follows another
abbrev pub next_part_text : AstPart → List ℕ
next_part_text one = codes ", " ++ part_text one

-- parts with a comma and a space between each two, as a list
abbrev pub listed_text : List AstPart → List ℕ
listed_text parts = but_first (flat_map next_part_text parts)

-- a Stream
abbrev pub stream_text : AstStream → List ℕ
stream_text one = type_text (stream (plain one.element) (plain one.user) (settings_of one))

-- ---- ports and bodies

-- documentation between its marks, and what follows it
abbrev pub doc_text : Option (List ℕ) → List ℕ → List ℕ
doc_text None after = []
doc_text (Some text) after = (codes "#" ++ text ++ codes "#") ++ after

-- a port, after its documentation and a space
abbrev pub port_text : AstPort → List ℕ
port_text port =
    doc_text port.doc (codes " ") ⁀ port.name.name ⁀ codes ": " ⁀ way_word port.inward ⁀ codes " " ⁀ type_text (plain port.ltype)

-- a port that follows another
abbrev pub next_port_text : AstPort → List ℕ
next_port_text port = codes ", " ++ port_text port

-- ports with a comma and a space between each two
abbrev pub ports_text : List AstPort → List ℕ
ports_text [] = codes "()"
ports_text (first ∷ more) = codes "(" ⁀ (port_text first ++ flat_map next_port_text more) ⁀ codes ")"

-- the second name of an end, after a point
abbrev pub second_text : Option AstName → List ℕ
second_text None = []
second_text (Some name) = codes "." ++ name.name

-- an end: one name, or two
abbrev pub end_text : AstEnd → List ℕ
end_text end = end.first.name ++ second_text end.second

-- a statement: an instance, or a link
abbrev pub stmt_text : AstStmt → List ℕ
stmt_text (stmts.Instance name streamlet) = name.name ⁀ codes " = " ⁀ names_text streamlet.names ⁀ codes ";"
stmt_text (stmts.Link first second) = end_text first ⁀ codes " -- " ⁀ end_text second ⁀ codes ";"

-- a text between its marks
abbrev pub quoted_text : List ℕ → List ℕ
quoted_text text = codes "\"" ++ text ++ codes "\""

-- a statement, and a space before it
abbrev pub spaced_text : AstStmt → List ℕ
spaced_text stmt = codes " " ++ stmt_text stmt

-- statements in braces, on one line
abbrev pub stmts_text : List AstStmt → List ℕ
stmts_text all = codes "{" ⁀ flat_map spaced_text all ⁀ codes " }"

-- the body of an implementation
abbrev pub body_text : AstBody → List ℕ
body_text (bodies.Linked text) = quoted_text text
body_text (bodies.Structural all) = stmts_text all

-- ---- declarations

-- the ports of a streamlet: its own, or those of the interface that the path names
abbrev pub streamlet_text : AstPorts → List ℕ
streamlet_text (ports.Own all) = ports_text all
streamlet_text (ports.Named target) = names_text target.names

-- a declaration of this name, up to its semicolon
abbrev pub kind_text : List ℕ → AstKind → List ℕ
kind_text name (decls.Alias ltype) = codes "type " ⁀ name ⁀ codes " = " ⁀ type_text (plain ltype)
kind_text name (decls.Interface all) = codes "interface " ⁀ name ⁀ codes " = " ⁀ ports_text all
kind_text name (decls.Streamlet all) = codes "streamlet " ⁀ name ⁀ codes " = " ⁀ streamlet_text all
kind_text name (decls.Impl target body) = codes "impl " ⁀ name ⁀ codes " of " ⁀ names_text target.names ⁀ codes " = " ⁀ body_text body
kind_text name (decls.Test target port value plan) =
    codes "test " ⁀ name ⁀ codes " of " ⁀ names_text target.names ⁀ codes " drive " ⁀ port.name
    ⁀ codes " = " ⁀ quoted_text value ⁀ codes " plan " ⁀ quoted_text plan

-- documentation on a line of its own, after so much white space
abbrev pub doc_line : List ℕ → Option (List ℕ) → List ℕ
doc_line indent None = []
doc_line indent (Some text) = indent ++ doc_text (Some text) (codes "\n")

-- a declaration on a line of its own, after its documentation
abbrev pub decl_text : AstDecl → List ℕ
decl_text decl = doc_line (codes "  ") decl.doc ⁀ codes "  " ⁀ kind_text decl.name.name decl.kind ⁀ codes ";\n"

-- a namespace: its documentation, its declarations and its closing brace, each on a line of its own
abbrev pub namespace_text : AstNamespace → List ℕ
namespace_text namespace =
    doc_line [] namespace.doc ⁀ codes "namespace " ⁀ names_text namespace.path.names ⁀ codes " {\n"
    ⁀ flat_map decl_text namespace.decls ⁀ codes "}\n"

-- the canonical text of a project
abbrev pub canonical : Ast → List ℕ
canonical ast = flat_map namespace_text ast.namespaces
