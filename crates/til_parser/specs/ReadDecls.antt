-- How `parse` reads declarations. No public clause names these. This project's own.
use Rattle.std.specs.Prelude.{ℕ, Bool, true, false, List, [], ◌∷◌, Option, Some, None, codes}
use Rattle.til_lexer.specs.declared.token.TokenKind.TheVariants as kinds
use Rattle.til_parser.specs.declared.keyword.Keyword.{Keyword}
use Rattle.til_parser.specs.declared.keyword.Keyword.TheVariants as keywords
use Rattle.til_parser.specs.declared.tree.Ast.{Ast}
use Rattle.til_parser.specs.declared.tree.AstBody.{AstBody}
use Rattle.til_parser.specs.declared.tree.AstBody.TheVariants as bodies
use Rattle.til_parser.specs.declared.tree.AstDecl.{AstDecl}
use Rattle.til_parser.specs.declared.tree.AstEnd.{AstEnd}
use Rattle.til_parser.specs.declared.tree.AstKind.{AstKind}
use Rattle.til_parser.specs.declared.tree.AstKind.TheVariants as decls
use Rattle.til_parser.specs.declared.ltype.AstType.{AstType}
use Rattle.til_parser.specs.declared.tree.AstName.{AstName}
use Rattle.til_parser.specs.declared.tree.AstPath.{AstPath}
use Rattle.til_parser.specs.declared.tree.AstNamespace.{AstNamespace}
use Rattle.til_parser.specs.declared.tree.AstPort.{AstPort}
use Rattle.til_parser.specs.declared.tree.AstPorts.{AstPorts}
use Rattle.til_parser.specs.declared.tree.AstPorts.TheVariants as ports
use Rattle.til_parser.specs.declared.tree.AstStmt.{AstStmt}
use Rattle.til_parser.specs.declared.tree.AstStmt.TheVariants as stmts
use Rattle.tydi_reading.specs.Lists.{repeated}
use Rattle.tydi_reading.specs.Reading.{◌>>=◌, ◌>>◌, ◌<$>◌, ◌<&>◌, ◌<<◌, choose, optional, checked}
use Rattle.til_parser.specs.Reading.{Reader, is_kind, expect, expect_word, token}
use Rattle.til_parser.specs.Words.{keyword_of}
use Rattle.til_parser.specs.ReadTypes.{name, path, quoted, doc, either_word, bracketed, ltype}

-- ---- lists in braces

-- items up to a closing brace, after an opening one
unfoldable pub braced : {A : Type 0} → Reader A → Reader (List A)
braced item = expect kinds.OpenBrace >> (repeated (is_kind kinds.CloseBrace) false item << expect kinds.CloseBrace)

-- ---- bodies

-- the second name of an end, after its point
unfoldable pub second : Reader (Option AstName)
second = optional (is_kind kinds.Point) (expect kinds.Point >> name)

-- an end of a link
unfoldable pub end : Reader AstEnd
end = (λ (e : AstName × Option AstName). record { first = e.0; second = e.1 }) <$> (name <&> second)

-- a link that begins with this name
unfoldable pub link_from : AstName → Reader AstStmt
link_from called =
    (λ (l : Option AstName × AstEnd). stmts.Link (record { first = called; second = l.0 }) l.1)
    <$> (second <&> (expect kinds.DoubleDash >> (end << expect kinds.Semicolon)))

-- an instance of this name
unfoldable pub instance_of : AstName → Reader AstStmt
instance_of called = (λ streamlet. stmts.Instance called streamlet) <$> (expect kinds.Equals >> (path << expect kinds.Semicolon))

-- a statement: after the name with which both forms begin, the next token decides which it is
unfoldable pub stmt : Reader AstStmt
stmt = name >>= (λ called. choose (is_kind kinds.Equals) false (instance_of called) (link_from called))

-- the body of an implementation
unfoldable pub body : Reader AstBody
body = choose (is_kind kinds.Quoted) false (bodies.Linked <$> quoted) (bodies.Structural <$> braced stmt)

-- ---- declarations, of types of at most so many levels

-- a port
unfoldable pub port : ℕ → Reader AstPort
port levels =
    (λ (p : Option (List ℕ) × (AstName × (Bool × AstType))). record { doc = p.0; name = p.1.0; inward = p.1.1.0; ltype = p.1.1.1 })
    <$> (doc <&> (name <&> (expect kinds.Colon >> (either_word (codes "in") (codes "out") <&> ltype levels))))

-- a streamlet's own ports, or the path of an interface
unfoldable pub streamlet_ports : ℕ → Reader AstPorts
streamlet_ports levels = choose (is_kind kinds.OpenParen) false (ports.Own <$> bracketed (port levels)) (ports.Named <$> path)

-- the word with which a declaration begins
abbrev pub keyword : Reader Keyword
keyword = token kinds.Word (λ place spelling. keyword_of spelling)

-- the part of an implementation after its name
unfoldable pub impl_kind : Reader AstKind
impl_kind = (λ (i : AstPath × AstBody). decls.Impl i.0 i.1) <$> (expect_word (codes "of") >> (path <&> (expect kinds.Equals >> body)))

-- the part of a test after its name
unfoldable pub test_kind : Reader AstKind
test_kind =
    (λ (t : AstPath × (AstName × (List ℕ × List ℕ))). decls.Test t.0 t.1.0 t.1.1.0 t.1.1.1)
    <$> (expect_word (codes "of") >> (path <&> (expect_word (codes "drive") >> (name <&> (expect kinds.Equals
    >> (quoted <&> (expect_word (codes "plan") >> quoted)))))))

-- the part of a declaration after its keyword and its name
abbrev pub kind_of : ℕ → Keyword → Reader AstKind
kind_of levels keywords.Type = decls.Alias <$> (expect kinds.Equals >> ltype levels)
kind_of levels keywords.Interface = decls.Interface <$> (expect kinds.Equals >> bracketed (port levels))
kind_of levels keywords.Streamlet = decls.Streamlet <$> (expect kinds.Equals >> streamlet_ports levels)
kind_of levels keywords.Impl = impl_kind
kind_of levels keywords.Test = test_kind

-- the name of a declaration and what follows it, after its keyword
unfoldable pub named_kind : ℕ → Reader (AstName × AstKind)
named_kind levels = keyword >>= (λ begun. name <&> kind_of levels begun)

-- a declaration
unfoldable pub decl : ℕ → Reader AstDecl
decl levels =
    (λ (d : Option (List ℕ) × (AstName × AstKind)). record { doc = d.0; name = d.1.0; kind = d.1.1 })
    <$> (doc <&> (named_kind levels << expect kinds.Semicolon))

-- a namespace
unfoldable pub namespace : ℕ → Reader AstNamespace
namespace levels =
    (λ (n : Option (List ℕ) × (AstPath × List AstDecl)). record { doc = n.0; path = n.1.0; decls = n.1.1 })
    <$> (doc <&> (expect_word (codes "namespace") >> (path <&> braced (decl levels))))

-- a project has one namespace at least
abbrev pub project_of : List AstNamespace → Option Ast
project_of [] = None
project_of (first ∷ more) = Some (record { namespaces = first ∷ more })

-- namespaces up to the end, one at least
unfoldable pub project : ℕ → Reader Ast
project levels = checked project_of (repeated (λ _. false) true (namespace levels))
