-- Ports that name one type declaration have one type.
use Rattle.std.proofs.Common.{◌≡◌, ℕ, zero, suc, List, [], ◌∷◌, length, All, Option, Some, None, IfSome, refl, ap, sym, ◌∙◌, arith}
use Rattle.logical_types.specs.Tree.{plain_of_stream}
use Rattle.til_parser.specs.Tree.{plain}
use Rattle.til_parser.specs.declared.ltype.AstType.{AstType}
use Rattle.til_parser.specs.declared.ltype.AstType.TheVariants as written
use Rattle.til_parser.specs.declared.tree.AstPath.{AstPath}
use Rattle.til_parser.proofs.PlainLemmas.{plain-Path}
use Rattle.til_resolve.specs.Declarations.{Declaration, PortOf, declaration, named, ports_of}
use Rattle.til_resolve.specs.NumberedTypes.{AreNumbered, HasTypeBy, numbered_type, numbered_within}
use Rattle.til_resolve.specs.Project.{IsPortOf, IsStreamletOf, Pairwise}
use Rattle.til_resolve.specs.Types.{meaning_of, type_of, type_of_number}
use Rattle.til_resolve.specs.declared.project.Port.{Port}
use Rattle.til_resolve.specs.declared.project.Streamlet.{Streamlet}

-- what a path that names a declaration means
meant-numbered : (all : List Declaration) (fuel : ℕ) (space : List (List ℕ)) (path : AstPath) (number : ℕ) → Some number ≡ named all space path
    → meaning_of all fuel space path.names ≡ numbered_within all fuel number
meant-numbered all zero space path number is = refl
meant-numbered all (suc less) space path number is = ap (type_of_number (λ inner. meaning_of all less inner) all) (sym is)

pub path-numbered : (all : List Declaration) (space : List (List ℕ)) (ltype : AstType) (path : AstPath) (number : ℕ) → ltype ≡ written.Path path → Some number ≡ named all space path
    → type_of all space (plain ltype) ≡ numbered_type all number
path-numbered all space ltype path number is names =
    ap (λ (t : AstType). type_of all space (plain t)) is ∙ ap (type_of all space) (plain-Path path) ∙ meant-numbered all (length all) space path number names

-- the same of a look-up
pub found-numbered : (all : List Declaration) (space : List (List ℕ)) (ltype : AstType) (path : AstPath) (found : Option ℕ) → ltype ≡ written.Path path → found ≡ named all space path
    → IfSome found (λ number. type_of all space (plain ltype) ≡ numbered_type all number)
found-numbered all space ltype path None is names = tt
found-numbered all space ltype path (Some number) is names = path-numbered all space ltype path number is names

-- ---- all ports

each-of : {A B : Type 0} (Related : A → B → Type 0) (Holds : B → Type 0) → ((x : A) (y : B) → Related x y → Holds y) → (xs : List A) (ys : List B) → Pairwise Related xs ys → All Holds ys
each-of Related Holds each [] [] are k d within = absurd (omega (arith, within))
each-of Related Holds each [] (y ∷ ys) are k d within = absurd are
each-of Related Holds each (x ∷ xs) [] are k d within = absurd are
each-of Related Holds each (x ∷ xs) (y ∷ ys) are zero d within = each x y are.0
each-of Related Holds each (x ∷ xs) (y ∷ ys) are (suc k) d within = each-of Related Holds each xs ys are.1 k d (omega arith)

port-numbered : (all : List Declaration) (one : PortOf) (port : Port) → IsPortOf all one port → HasTypeBy (numbered_type all) port
port-numbered all one port is = by port.declared is.declared_is
  where
    by : (declared : Option ℕ) → IfSome declared (λ number. type_of all one.space (plain one.port.ltype) ≡ numbered_type all number)
        → IfSome declared (λ number. plain_of_stream port.ltype.value ≡ numbered_type all number)
    by None so = tt
    by (Some number) so = is.type_is ∙ so

pub streamlets-numbered : (all : List Declaration) (numbers : List ℕ) (streamlets : List Streamlet) → Pairwise (IsStreamletOf all) numbers streamlets → AreNumbered streamlets
streamlets-numbered all numbers streamlets are = (
  numbered_type all,
  each-of (IsStreamletOf all) (λ (streamlet : Streamlet). All (HasTypeBy (numbered_type all)) streamlet.ports)
      (λ one streamlet is. each-of (IsPortOf all) (HasTypeBy (numbered_type all)) (port-numbered all) (ports_of all (declaration all one)) streamlet.ports is.ports_are) numbers streamlets are,
)
