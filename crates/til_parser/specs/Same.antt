-- Trees that are the same, their places aside. This project's own.
use Rattle.std.specs.Prelude.{◌≡◌, List, [], ◌∷◌, Option, Some, None}
use Rattle.til_parser.specs.declared.tree.Ast.{Ast}
use Rattle.til_parser.specs.declared.tree.AstBody.{AstBody}
use Rattle.til_parser.specs.declared.tree.AstBody.TheVariants as bodies
use Rattle.til_parser.specs.declared.tree.AstDecl.{AstDecl}
use Rattle.til_parser.specs.declared.tree.AstEnd.{AstEnd}
use Rattle.til_parser.specs.declared.tree.AstKind.{AstKind}
use Rattle.til_parser.specs.declared.tree.AstKind.TheVariants as decls
use Rattle.til_parser.specs.declared.tree.AstName.{AstName}
use Rattle.til_parser.specs.declared.tree.AstNamespace.{AstNamespace}
use Rattle.til_parser.specs.declared.tree.AstPort.{AstPort}
use Rattle.til_parser.specs.declared.tree.AstPorts.{AstPorts}
use Rattle.til_parser.specs.declared.tree.AstPorts.TheVariants as ports
use Rattle.til_parser.specs.declared.tree.AstStmt.{AstStmt}
use Rattle.til_parser.specs.declared.tree.AstStmt.TheVariants as stmts
use Rattle.til_parser.specs.Tree.{Ltype, null, bits, group, union, stream, path, Parts, no_parts, part, plain}

-- two lists of one length, each two of one place alike
abbrev pub Alike : {A : Type 0} → (A → A → Type 0) → List A → List A → Type 0
Alike Same [] [] = Unit {0}
Alike Same (one ∷ ones) (other ∷ others) = Same one other × Alike Same ones others
Alike Same _ _ = ⊥

-- two names are the same, wherever they stand
abbrev pub SameName : AstName → AstName → Type 0
SameName one other = one.name ≡ other.name

-- two lists of names are the same
abbrev pub SameNames : List AstName → List AstName → Type 0
SameNames ones others = Alike SameName ones others

abbrev mutual
  -- two types are the same, places aside
  pub SameType : Ltype → Ltype → Type 0
  SameType null null = Unit {0}
  SameType (bits one) (bits other) = one ≡ other
  SameType (group ones) (group others) = SameParts ones others
  SameType (union ones) (union others) = SameParts ones others
  SameType (stream element user settings) (stream element' user' settings') =
      SameType element element' × SameType user user' × (settings ≡ settings')
  SameType (path ones) (path others) = SameNames ones others
  SameType _ _ = ⊥

  -- two lists of parts are the same
  pub SameParts : Parts → Parts → Type 0
  SameParts no_parts no_parts = Unit {0}
  SameParts (part name ltype more) (part name' ltype' more') = SameName name name' × SameType ltype ltype' × SameParts more more'
  SameParts _ _ = ⊥

-- two ports are the same
pub record SamePort (one other : AstPort) : Type 0 where
  pub doc : one.doc ≡ other.doc
  pub name : SameName one.name other.name
  pub inward : one.inward ≡ other.inward
  pub ltype : SameType (plain one.ltype) (plain other.ltype)

-- both ends have the same second name, or none
abbrev pub SameSecond : Option AstName → Option AstName → Type 0
SameSecond None None = Unit {0}
SameSecond (Some one) (Some other) = SameName one other
SameSecond _ _ = ⊥

-- two ends are the same
abbrev pub SameEnd : AstEnd → AstEnd → Type 0
SameEnd one other = SameName one.first other.first × SameSecond one.second other.second

-- two statements are the same
abbrev pub SameStmt : AstStmt → AstStmt → Type 0
SameStmt (stmts.Instance name streamlet) (stmts.Instance name' streamlet') = SameName name name' × SameNames streamlet.names streamlet'.names
SameStmt (stmts.Link first second) (stmts.Link first' second') = SameEnd first first' × SameEnd second second'
SameStmt _ _ = ⊥

-- two bodies are the same
abbrev pub SameBody : AstBody → AstBody → Type 0
SameBody (bodies.Linked one) (bodies.Linked other) = one ≡ other
SameBody (bodies.Structural ones) (bodies.Structural others) = Alike SameStmt ones others
SameBody _ _ = ⊥

-- the ports of two streamlets are the same
abbrev pub SamePorts : AstPorts → AstPorts → Type 0
SamePorts (ports.Own ones) (ports.Own others) = Alike SamePort ones others
SamePorts (ports.Named one) (ports.Named other) = SameNames one.names other.names
SamePorts _ _ = ⊥

-- two declarations are the same, their names aside
abbrev pub SameKind : AstKind → AstKind → Type 0
SameKind (decls.Alias one) (decls.Alias other) = SameType (plain one) (plain other)
SameKind (decls.Interface ones) (decls.Interface others) = Alike SamePort ones others
SameKind (decls.Streamlet one) (decls.Streamlet other) = SamePorts one other
SameKind (decls.Impl target body) (decls.Impl target' body') = SameNames target.names target'.names × SameBody body body'
SameKind (decls.Test target port value plan) (decls.Test target' port' value' plan') =
    SameNames target.names target'.names × SameName port port' × (value ≡ value') × (plan ≡ plan')
SameKind _ _ = ⊥

-- two declarations are the same
pub record SameDecl (one other : AstDecl) : Type 0 where
  pub doc : one.doc ≡ other.doc
  pub name : SameName one.name other.name
  pub kind : SameKind one.kind other.kind

-- two namespaces are the same
pub record SameNamespace (one other : AstNamespace) : Type 0 where
  pub doc : one.doc ≡ other.doc
  pub path : SameNames one.path.names other.path.names
  pub decls : Alike SameDecl one.decls other.decls

-- two trees are the same, their places aside
abbrev pub SameTree : Ast → Ast → Type 0
SameTree one other = Alike SameNamespace one.namespaces other.namespaces
