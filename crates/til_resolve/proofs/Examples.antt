-- A project with an error of names of each kind, and a port as it is written out or by an interface: the definitions say what a
-- reader of the text expects.
use Rattle.std.proofs.Common.{◌≡◌, ℕ, zero, suc, true, List, [], ◌∷◌, map, None, refl, sym, ap, ◌∙◌, codes}
use Rattle.tydi_base.specs.declared.place.Place.{Place}
use Rattle.til_parser.specs.declared.ltype.AstType.TheVariants as types
use Rattle.til_parser.specs.declared.tree.Ast.{Ast}
use Rattle.til_parser.specs.declared.tree.AstBody.TheVariants as bodies
use Rattle.til_parser.specs.declared.tree.AstDecl.{AstDecl}
use Rattle.til_parser.specs.declared.tree.AstKind.{AstKind}
use Rattle.til_parser.specs.declared.tree.AstKind.TheVariants as decls
use Rattle.til_parser.specs.declared.tree.AstName.{AstName}
use Rattle.til_parser.specs.declared.tree.AstNamespace.{AstNamespace}
use Rattle.til_parser.specs.declared.tree.AstPath.{AstPath}
use Rattle.til_parser.specs.declared.tree.AstPort.{AstPort}
use Rattle.til_parser.specs.declared.tree.AstPorts.TheVariants as ports
use Rattle.til_parser.specs.declared.tree.AstStmt.TheVariants as stmts
use Rattle.til_parser.specs.declared.ltype.AstType.TheOpen.{AstType-F}
use Rattle.til_parser.specs.declared.ltype.AstType.TheFolds.{fold-roll-AstType}
use Rattle.til_parser.specs.Tree as tree
use Rattle.til_parser.specs.Tree.{plain}
use Rattle.logical_types.specs.Size.{number_of_nodes, depth_of}
use Rattle.logical_types.specs.Tree.{Ltype, null, group, part, no_parts}
use Rattle.til_resolve.specs.Declarations.{declarations}
use Rattle.til_resolve.specs.Names.{twice, unknown, wrong_kinds}

-- the plain data of a port's type
plain-Null : plain types.Null ≡ tree.null
plain-Null = ap plain (sym types.rolls-Null) ∙ fold-roll-AstType tree.Ltype tree.PlainPart tree.PlainStream tree.plain_type tree.plain_part tree.plain_stream AstType-F.Null

-- a place by its offset alone
abbrev at : ℕ → Place
at offset = record { offset = offset; line = 1; column = 1 }

abbrev name : List ℕ → ℕ → AstName
name text offset = record { name = text; place = at offset }

abbrev path : List ℕ → ℕ → AstPath
path text offset = record { names = name text offset ∷ [] }

abbrev long_path : List ℕ → List ℕ → ℕ → AstPath
long_path first second offset = record { names = name first offset ∷ name second offset ∷ [] }

abbrev port : List ℕ → ℕ → AstPort
port text offset = record { doc = None; name = name text offset; inward = true; ltype = types.Null }

abbrev decl : List ℕ → ℕ → AstKind → AstDecl
decl text offset kind = record { doc = None; name = name text offset; kind = kind }

abbrev namespace : List ℕ → List AstDecl → AstNamespace
namespace text all = record { doc = None; path = path text 0; decls = all }

-- namespace a { interface i = (p, P); streamlet s = i; streamlet s = (); }
-- namespace b { streamlet s = a::s; impl x of a::s = { p = s; q = t; q = s; }; }
-- namespace a { impl y of s = ""; test t of s drive q = "" plan ""; test u of s drive p = "" plan ""; }
abbrev example : Ast
example = record {
  namespaces = namespace (codes "a") (decl (codes "i") 10 (decls.Interface (port (codes "p") 11 ∷ port (codes "P") 12 ∷ []))
      ∷ decl (codes "s") 20 (decls.Streamlet (ports.Named (path (codes "i") 21))) ∷ decl (codes "s") 30 (decls.Streamlet (ports.Own [])) ∷ [])
      ∷ namespace (codes "b") (decl (codes "s") 40 (decls.Streamlet (ports.Named (long_path (codes "a") (codes "s") 41)))
      ∷ decl (codes "x") 50 (decls.Impl (long_path (codes "a") (codes "s") 51) (bodies.Structural (stmts.Instance (name (codes "p") 52) (path (codes "s") 53)
      ∷ stmts.Instance (name (codes "q") 54) (path (codes "t") 55) ∷ stmts.Instance (name (codes "q") 56) (path (codes "s") 57) ∷ []))) ∷ [])
      ∷ namespace (codes "a") (decl (codes "y") 60 (decls.Impl (path (codes "s") 61) (bodies.Linked []))
      ∷ decl (codes "t") 70 (decls.Test (path (codes "s") 71) (name (codes "q") 72) [] [])
      ∷ decl (codes "u") 80 (decls.Test (path (codes "s") 81) (name (codes "p") 82) [] []) ∷ []) ∷ [];
}

-- the second `s` of `a`, the port `P`, the second instance `q`, the instance with the name of a port, and the second `impl`
names_twice : map (λ (place : Place). place.offset) (twice (declarations example)) ≡ 12 ∷ 30 ∷ 56 ∷ 52 ∷ 60 ∷ []
names_twice = refl

-- the streamlet `t`, which `b` lacks, and the port `q`
names_unknown : map (λ (place : Place). place.offset) (unknown (declarations example)) ≡ 55 ∷ 72 ∷ []
names_unknown = rw plain-Null refl

-- a streamlet where an interface is asked
names_wrong : map (λ (place : Place). place.offset) (wrong_kinds (declarations example)) ≡ 41 ∷ []
names_wrong = rw plain-Null refl

-- ---- a tower of types, each holding the one before twice

abbrev tower : ℕ → Ltype
tower zero = group (part (codes "x") null no_parts)
tower (suc less) = group (part (codes "x") (tower less) (part (codes "y") (tower less) no_parts))

-- the last that is small enough, and the first that is not
tower_small : number_of_nodes (tower 14) ≡ 49151
tower_small = refl

tower_large : number_of_nodes (tower 15) ≡ 98303
tower_large = refl

tower_depth : depth_of (tower 14) ≡ 16
tower_depth = refl
