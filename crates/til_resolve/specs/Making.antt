-- The data that a project is made from. It serves the making, and no public clause.
use Rattle.std.specs.Prelude.{◌≡◌, ℕ, ◌∷◌, [], List, map, position, take, true, Option, Some, None}
use Rattle.til_parser.specs.declared.tree.AstKind.{AstKind}
use Rattle.til_parser.specs.declared.tree.AstKind.TheVariants as decls
use Rattle.til_parser.specs.declared.tree.AstPort.{AstPort}
use Rattle.til_parser.specs.Tree.{plain}
use Rattle.til_resolve.specs.declared.project.Impl.{Impl}
use Rattle.til_resolve.specs.Declarations.{Declaration, PortOf, before}
use Rattle.til_resolve.specs.Faults.{WrittenType}
use Rattle.til_resolve.specs.Names.{is_impl_of}
use Rattle.til_resolve.specs.Project.{streamlet_number, impl_of}
use Rattle.til_resolve.specs.Types.{type_of}

-- how many streamlets stand before each of the declarations before a number
abbrev pub numbers_before : List Declaration → ℕ → List ℕ
numbers_before all end = before (λ one. streamlet_number all one ∷ []) end

-- a look-up finds the first `impl` of each streamlet, of the declarations before a number
abbrev pub FindsFirstImpl : (ℕ → Option ℕ) → List Declaration → ℕ → Type 0
FindsFirstImpl find all number = (streamlet : ℕ) → find streamlet ≡ position (is_impl_of all streamlet) (take number all)

-- the implementation that a declaration is, if it is an `impl`
abbrev pub written_impl : List Declaration → Declaration → Option Impl
written_impl all one = of_kind one.kind
  where
    of_kind : AstKind → Option Impl
    of_kind (decls.Alias ltype) = None
    of_kind (decls.Interface listed) = None
    of_kind (decls.Streamlet listed) = None
    of_kind (decls.Impl target body) = Some (impl_of all one.space target body)
    of_kind (decls.Test target port value plan) = None

-- ports that are written in a namespace
abbrev pub written_in : List (List ℕ) → List AstPort → List PortOf
written_in space listed = map (λ port. record { space = space; port = port }) listed

-- the type of a port that is written in a namespace
abbrev pub type_of_port : List Declaration → List (List ℕ) → AstPort → WrittenType
type_of_port all space port = record { place = port.name.place; ltype = type_of all space (plain port.ltype); in_port = true }
