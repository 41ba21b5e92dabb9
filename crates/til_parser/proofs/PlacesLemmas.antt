-- A property of a tree holds for each tree that is the same, places aside.
use Rattle.til_parser.proofs.rules.Common.{◌≡◌, ℕ, ◌≤◌, suc, List, [], ◌∷◌, ◌++◌, length, Option, Some, None, refl, ap, subst, arith, codes, is_name, EachIs, Ast, AstKind, AstName}
use Rattle.til_parser.proofs.rules.Common.{AstNamespace, PortsWithin, KindWithin, DeclsWithin, Ltype, null, depth, depth_of_parts, plain}
use Rattle.std.proofs.Common.{flat_map, IsTrue}
use Rattle.til_parser.specs.Canonical.{but_first, names_text, type_text, more_parts_text, port_text, ports_text, second_text, end_text, stmt_text, body_text}
use Rattle.til_parser.specs.Canonical.{quoted_text, kind_text, decl_text, namespace_text}
use Rattle.til_parser.specs.Same.{Alike, SameName, SameNames, SameType, SameParts, SamePort, SameSecond, SameEnd, SameStmt, SameBody, SameKind, SameDecl, SameNamespace}
use Rattle.til_parser.specs.Tree.{bits, group, union, stream, path, Parts, no_parts, part}
use Rattle.til_parser.specs.Trees.{HasName, IsPath, IsDoc, IsQuote, IsShort, AreSettings, IsType, AreParts, IsPort, IsSecond, IsEnd, IsStmt, IsBody, IsKind, IsDecl}
use Rattle.til_parser.specs.declared.tree.{AstBody.AstBody, AstDecl.AstDecl, AstEnd.AstEnd, AstPort.AstPort, AstStmt.AstStmt}
use Rattle.til_parser.specs.{Laws.AreAlike, Same.SameTree, Trees.IsNamespace}
use Rattle.til_parser.specs.declared.tree.AstBody.TheVariants as bodies
use Rattle.til_parser.specs.declared.tree.AstKind.TheVariants as decls
use Rattle.til_parser.specs.declared.tree.AstPorts.TheVariants as ports
use Rattle.til_parser.specs.declared.tree.AstStmt.TheVariants as stmts

-- two things have one text; if the one is such a thing, so is the other, and if the one is within so many levels
record Kept {A : Type 0} (Text : A → List ℕ) (Is : A → Type 0) (Within : ℕ → A → Type 0) (one other : A) : Type 0 where
  text : Text one ≡ Text other
  is : Is one → Is other
  within : (levels : ℕ) → Within levels one → Within levels other

-- no types stand in it
abbrev NoBounds : {A : Type 0} → ℕ → A → Type 0
NoBounds levels one = Unit {0}

-- ---- lists

-- things with this text before each; there are as many of both
each-kept : {A : Type 0} {Text : A → List ℕ} {Is : A → Type 0} {Within : ℕ → A → Type 0} {Same : A → A → Type 0} (before : List ℕ)
    → ((one other : A) → Same one other → Kept Text Is Within one other) → (ones others : List A) → Alike Same ones others
    → Kept (flat_map (λ a. before ++ Text a)) (EachIs Is) (λ levels. EachIs (Within levels)) ones others × (length ones ≡ length others)
each-kept before kept [] [] s = (record { text = refl; is = λ is. is; within = λ levels w. w }, refl)
each-kept before kept (one ∷ ones) (other ∷ others) s =
    let k = kept one other s.0 in
    let more = each-kept before kept ones others s.1 in
    (record { text = cc; is = λ is. (k.is is.0, more.0.is is.1); within = λ levels w. (k.within levels w.0, more.0.within levels w.1) }, ap suc more.1)
each-kept before kept _ _ s = absurd s

-- ---- names and paths

name-kept : (one other : AstName) → SameName one other → Kept (λ name. name.name) HasName NoBounds one other
name-kept one other s = record { text = s; is = subst (λ l. IsTrue (is_name l)) s; within = λ levels w. w }

path-kept : (ones others : List AstName) → SameNames ones others → Kept names_text IsPath NoBounds ones others
path-kept ones others s =
    let k = each-kept (codes "::") name-kept ones others s in
    record { text = ap but_first k.0.text; is = λ is. record { some = omega (arith, is.some, k.1); each = k.0.is is.each }; within = λ levels w. w }

-- ---- types

mutual
  type-kept : (one other : Ltype) → SameType one other → Kept type_text IsType (λ levels t. depth t ≤ levels) one other
  type-kept null null s = record { text = refl; is = λ is. is; within = λ levels w. w }
  type-kept (bits one) (bits other) s = record { text = ap (λ n. type_text (bits n)) s; is = subst IsShort s; within = λ levels w. w }
  type-kept (group ones) (group others) s =
      let k = all_parts-kept ones others s in record { text = cc; is = k.is; within = λ levels w. omega (arith, k.within (depth_of_parts ones)) }
  type-kept (union ones) (union others) s =
      let k = all_parts-kept ones others s in record { text = cc; is = k.is; within = λ levels w. omega (arith, k.within (depth_of_parts ones)) }
  type-kept (stream element user settings) (stream element' user' settings') s =
      let e = type-kept element element' s.0 in
      let u = type-kept user user' s.1 in
      record { text = cc; is = λ is. (e.is is.0, u.is is.1, subst AreSettings s.2 is.2); within = λ levels w. omega (arith, e.within (depth element), u.within (depth user)) }
  type-kept (path ones) (path others) s = let k = path-kept ones others s in record { text = k.text; is = k.is; within = λ levels w. w }
  type-kept _ _ s = absurd s

  all_parts-kept : (ones others : Parts) → SameParts ones others → Kept more_parts_text AreParts (λ levels p. depth_of_parts p ≤ levels) ones others
  all_parts-kept no_parts no_parts s = record { text = refl; is = λ is. is; within = λ levels w. w }
  all_parts-kept (part name ltype more) (part name' ltype' more') s =
      let t = type-kept ltype ltype' s.1 in
      let m = all_parts-kept more more' s.2 in
      record { text = cc; is = λ is. (rw s.0 at is.0, t.is is.1, m.is is.2); within = λ levels w. omega (arith, t.within levels, m.within levels) }
  all_parts-kept _ _ s = absurd s

-- ---- bodies

second-kept : (one other : Option AstName) → SameSecond one other → Kept second_text IsSecond NoBounds one other
second-kept None None s = record { text = refl; is = λ is. is; within = λ levels w. w }
second-kept (Some one) (Some other) s = record { text = ap (λ l. codes "." ++ l) s; is = (name-kept one other s).is; within = λ levels w. w }
second-kept _ _ s = absurd s

end-kept : (one other : AstEnd) → SameEnd one other → Kept end_text IsEnd NoBounds one other
end-kept one other s =
    let k = second-kept one.second other.second s.1 in
    record { text = cc; is = λ is. (rw s.0 at is.0, k.is is.1); within = λ levels w. w }

stmt-kept : (one other : AstStmt) → SameStmt one other → Kept stmt_text IsStmt NoBounds one other
stmt-kept (stmts.Instance name streamlet) (stmts.Instance name' streamlet') s =
    let k = path-kept streamlet.names streamlet'.names s.1 in
    record { text = cc; is = λ is. (rw s.0 at is.0, k.is is.1); within = λ levels w. w }
stmt-kept (stmts.Link first second) (stmts.Link first' second') s =
    let one = end-kept first first' s.0 in
    let two = end-kept second second' s.1 in
    record { text = cc; is = λ is. (one.is is.0, two.is is.1); within = λ levels w. w }
stmt-kept _ _ s = absurd s

body-kept : (one other : AstBody) → SameBody one other → Kept body_text IsBody NoBounds one other
body-kept (bodies.Linked one) (bodies.Linked other) s = record { text = ap quoted_text s; is = subst IsQuote s; within = λ levels w. w }
body-kept (bodies.Structural ones) (bodies.Structural others) s =
    let k = each-kept (codes " ") stmt-kept ones others s in record { text = cc; is = k.0.is; within = λ levels w. w }
body-kept _ _ s = absurd s

-- ---- the trees that types stand in

port-kept : (one other : AstPort) → SamePort one other → Kept port_text IsPort (λ levels port. depth (plain port.ltype) ≤ levels) one other
port-kept one other s =
    let t = type-kept (plain one.ltype) (plain other.ltype) s.ltype in
    record { text = cc; is = λ is. record { doc = subst IsDoc s.doc is.doc; name = rw s.name at is.name; ltype = t.is is.ltype }; within = t.within }

ports-kept : (ones others : List AstPort) → Alike SamePort ones others → Kept ports_text (EachIs IsPort) PortsWithin ones others
ports-kept [] [] s = record { text = refl; is = λ is. is; within = λ levels w. w }
ports-kept (one ∷ ones) (other ∷ others) s =
    let p = port-kept one other s.0 in
    let k = each-kept (codes ", ") port-kept ones others s.1 in
    record { text = cc; is = λ is. (p.is is.0, k.0.is is.1); within = λ levels w. (p.within levels w.0, k.0.within levels w.1) }
ports-kept _ _ s = absurd s

kind-kept : (name : List ℕ) (one other : AstKind) → SameKind one other → Kept (kind_text name) IsKind KindWithin one other
kind-kept name (decls.Alias one) (decls.Alias other) s =
    let t = type-kept (plain one) (plain other) s in record { text = cc; is = t.is; within = t.within }
kind-kept name (decls.Interface ones) (decls.Interface others) s =
    let k = ports-kept ones others s in record { text = cc; is = k.is; within = k.within }
kind-kept name (decls.Streamlet (ports.Own ones)) (decls.Streamlet (ports.Own others)) s =
    let k = ports-kept ones others s in record { text = cc; is = k.is; within = k.within }
kind-kept name (decls.Streamlet (ports.Named one)) (decls.Streamlet (ports.Named other)) s =
    let k = path-kept one.names other.names s in record { text = cc; is = k.is; within = λ levels w. w }
kind-kept name (decls.Impl target body) (decls.Impl target' body') s =
    let t = path-kept target.names target'.names s.0 in
    let k = body-kept body body' s.1 in
    record { text = cc; is = λ is. (t.is is.0, k.is is.1); within = λ levels w. w }
kind-kept name (decls.Test target port value plan) (decls.Test target' port' value' plan') s =
    let t = path-kept target.names target'.names s.0 in
    record { text = cc; is = λ is. (t.is is.0, rw s.1 at is.1, subst IsQuote s.2 is.2, subst IsQuote s.3 is.3); within = λ levels w. w }
kind-kept name _ _ s = absurd s

decl-kept : (one other : AstDecl) → SameDecl one other → Kept decl_text IsDecl (λ levels decl. KindWithin levels decl.kind) one other
decl-kept one other s =
    let k = kind-kept one.name.name one.kind other.kind s.kind in
    record { text = cc; is = λ is. record { doc = subst IsDoc s.doc is.doc; name = rw s.name at is.name; kind = k.is is.kind }; within = k.within }

namespace-kept : (one other : AstNamespace) → SameNamespace one other
    → Kept namespace_text IsNamespace (λ levels namespace. DeclsWithin levels namespace.decls) one other
namespace-kept one other s =
    let p = path-kept one.path.names other.path.names s.path in
    let k = each-kept [] decl-kept one.decls other.decls s.decls in
    record { text = cc; is = λ is. record { doc = subst IsDoc s.doc is.doc; path = p.is is.path; decls = k.0.is is.decls }; within = k.0.within }

pub trees_alike : (one other : Ast) → SameTree one other → AreAlike one other
trees_alike one other s =
    let k = each-kept [] namespace-kept one.namespaces other.namespaces s in
    record { text = k.0.text; spellable = λ is. record { some = omega (arith, is.some, k.1); each = k.0.is is.each }; within = k.0.within }
