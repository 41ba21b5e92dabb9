-- The errors of a tree, each at its place, and the one that is reported. This project's own.
use Rattle.std.specs.Prelude.{◌≡◌, ◌≤◌, ◌<◌, ◌⊎◌, ℕ, Bool, true, false, not, ◌&&◌, ◌==◌, List, [], ◌∷◌, map, length, slice_get, find, is_some, Option, Some, IfSome, MatchOption, Contains, IsTrue}
use Rattle.std.specs.List.{flat_map}
use Rattle.tydi_base.specs.declared.place.Place.{Place}
use Rattle.til_parser.specs.declared.tree.Ast.{Ast}
use Rattle.til_parser.specs.declared.tree.AstKind.{AstKind}
use Rattle.til_parser.specs.declared.tree.AstKind.TheVariants as decls
use Rattle.til_parser.specs.declared.tree.AstName.{AstName}
use Rattle.til_parser.specs.declared.tree.AstPort.{AstPort}
use Rattle.til_parser.specs.declared.tree.AstPorts.TheVariants as ports
use Rattle.til_parser.specs.Tree.{plain}
use Rattle.logical_types.specs.Size.{number_of_nodes, depth_of}
use Rattle.logical_types.specs.Tree.{Ltype}
use Rattle.logical_types.specs.Faults.{faults_of}
use Rattle.logical_types.specs.declared.fault.TypeFault.{TypeFault}
use Rattle.til_resolve.specs.declared.fault.ResolveFault.{ResolveFault}
use Rattle.til_resolve.specs.declared.fault.ResolveFault.TheVariants as faults
use Rattle.til_resolve.specs.Declarations.{Declaration, declaration, declarations, nowhere}
use Rattle.til_resolve.specs.Types.{type_of, is_stream}
use Rattle.til_resolve.specs.Names.{implements, target_place, twice, unknown, wrong_kinds}
use Rattle.til_resolve.specs.Cycles.{LeadsTo, IsCyclicType, ContainsStreamlet}
use Rattle.til_resolve.specs.Earliest.{IsBelow}

-- ---- the types that a tree writes: those of type declarations and of ports

-- a type, the place at which its errors are reported, and whether it is that of a port
pub record WrittenType : Type 0 where
  pub place : Place
  pub ltype : Ltype
  pub in_port : Bool

-- the types of ports that are written in a namespace
abbrev pub port_types : List Declaration → List (List ℕ) → List AstPort → List WrittenType
port_types all space listed = map (λ port. record { place = port.name.place; ltype = type_of all space (plain port.ltype); in_port = true }) listed

-- the types that a declaration of a kind writes: its own, or those of its ports
abbrev pub types_of_kind : List Declaration → List (List ℕ) → AstName → AstKind → List WrittenType
types_of_kind all space name (decls.Alias ltype) = record { place = name.place; ltype = type_of all space (plain ltype); in_port = false } ∷ []
types_of_kind all space name (decls.Interface listed) = port_types all space listed
types_of_kind all space name (decls.Streamlet (ports.Own listed)) = port_types all space listed
types_of_kind all space name (decls.Streamlet (ports.Named path)) = []
types_of_kind all space name (decls.Impl target body) = []
types_of_kind all space name (decls.Test target port value plan) = []

-- the types that a declaration writes
abbrev pub types_in : List Declaration → Declaration → List WrittenType
types_in all one = types_of_kind all one.space one.name one.kind

-- all types that a tree writes
abbrev pub written_types : List Declaration → List WrittenType
written_types all = flat_map (types_in all) all

-- a type of over 65,536 nodes, or nested deeper than 64
abbrev pub IsTooLarge : Ltype → Type 0
IsTooLarge ltype = (65536 < number_of_nodes ltype) ⊎ (64 < depth_of ltype)

-- one of these types, with this place, is such a type
pub record HasTypeAt (Is : WrittenType → Type 0) (types : List WrittenType) (place : Place) : Type 0 where
  pub one : WrittenType
  pub written : Contains types one
  pub at : one.place ≡ place
  pub is : Is one

-- a type declaration that leads to itself, at its name
pub record IsCyclicAtName (all : List Declaration) (one : ℕ) (place : Place) : Type 0 where
  pub at : (declaration all one).name.place ≡ place
  pub leads : IsCyclicType all one

-- an `impl` whose streamlet contains itself, at the path after `of`
pub record IsCyclicAtTarget (all : List Declaration) (one : ℕ) (place : Place) : Type 0 where
  pub at : target_place (declaration all one).kind ≡ place
  pub streamlet : ℕ
  pub implements : implements all (declaration all one) ≡ Some streamlet
  pub leads : LeadsTo (ContainsStreamlet all) streamlet streamlet

-- ---- the errors of a tree, in the order in which they are looked for

-- the tree of these declarations has such a fault
abbrev pub HasFault : List Declaration → ResolveFault → Type 0
HasFault all (faults.DeclaredTwice place) = Contains (twice all) place
HasFault all (faults.UnknownName place) = Contains (unknown all) place
HasFault all (faults.WrongKind place) = Contains (wrong_kinds all) place
HasFault all (faults.CyclicType place) = IsBelow (IsCyclicAtName all) (length all) place
HasFault all (faults.TypeTooLarge place) = HasTypeAt (λ one. IsTooLarge one.ltype) (written_types all) place
HasFault all (faults.BadType place fault) = HasTypeAt (λ one. slice_get (faults_of one.ltype) 0 ≡ Some fault) (written_types all) place
HasFault all (faults.PortNotStream place) = HasTypeAt (λ one. IsTrue one.in_port × IsTrue (not (is_stream one.ltype))) (written_types all) place
HasFault all (faults.CyclicInstance place) = IsBelow (IsCyclicAtTarget all) (length all) place
HasFault all faults.Memory = ⊥

-- the order in which faults are looked for; unknown names and wrong kinds together
abbrev pub order_of : ResolveFault → ℕ
order_of (faults.DeclaredTwice place) = 1
order_of (faults.UnknownName place) = 2
order_of (faults.WrongKind place) = 2
order_of (faults.CyclicType place) = 3
order_of (faults.TypeTooLarge place) = 4
order_of (faults.BadType place fault) = 5
order_of (faults.PortNotStream place) = 6
order_of (faults.CyclicInstance place) = 7
order_of faults.Memory = 8

-- where a fault stands
abbrev pub place_of_fault : ResolveFault → Place
place_of_fault (faults.DeclaredTwice place) = place
place_of_fault (faults.UnknownName place) = place
place_of_fault (faults.WrongKind place) = place
place_of_fault (faults.CyclicType place) = place
place_of_fault (faults.TypeTooLarge place) = place
place_of_fault (faults.BadType place fault) = place
place_of_fault (faults.PortNotStream place) = place
place_of_fault (faults.CyclicInstance place) = place
place_of_fault faults.Memory = nowhere

abbrev pub offset_of : ResolveFault → ℕ
offset_of fault = (place_of_fault fault).offset

-- one error is reported before another: it is looked for before, or stands no later in the text
abbrev pub IsToldBefore : ResolveFault → ResolveFault → Type 0
IsToldBefore one other = (order_of one < order_of other) ⊎ ((order_of one ≡ order_of other) × (offset_of one ≤ offset_of other))

-- a type with an error, reported at this offset
abbrev pub is_bad_at : ℕ → WrittenType → Bool
is_bad_at offset one = one.place.offset == offset && is_some (slice_get (faults_of one.ltype) 0)

-- the first of these types that has a fault at a place, with its first fault
pub record IsChosenBad (types : List WrittenType) (place : Place) (fault : TypeFault) : Type 0 where
  pub one : WrittenType
  pub found : find (is_bad_at place.offset) types ≡ Some one
  pub at : one.place ≡ place
  pub is : slice_get (faults_of one.ltype) 0 ≡ Some fault

-- the choice between two errors of one order and place: a name that is unknown comes before one of a wrong kind, and the first of
-- the types with errors is reported. In the tree of a text no two stand at one place.
abbrev pub IsChosen : List Declaration → ResolveFault → Type 0
IsChosen all (faults.DeclaredTwice place) = Unit {0}
IsChosen all (faults.UnknownName place) = Unit {0}
IsChosen all (faults.WrongKind place) = (other : Place) → Contains (unknown all) other → place.offset < other.offset
IsChosen all (faults.CyclicType place) = Unit {0}
IsChosen all (faults.TypeTooLarge place) = Unit {0}
IsChosen all (faults.BadType place fault) = IsChosenBad (written_types all) place fault
IsChosen all (faults.PortNotStream place) = Unit {0}
IsChosen all (faults.CyclicInstance place) = Unit {0}
IsChosen all faults.Memory = Unit {0}

-- the reported error of declarations
pub record IsTold (all : List Declaration) (fault : ResolveFault) : Type 0 where
  pub there : HasFault all fault
  pub first : (other : ResolveFault) → HasFault all other → IsToldBefore fault other
  pub chosen : IsChosen all fault

-- the reported error of a tree
abbrev pub IsToldOf : Ast → ResolveFault → Type 0
IsToldOf ast fault = IsTold (declarations ast) fault

-- a tree has no fault
abbrev pub IsSound : Ast → Type 0
IsSound ast = (fault : ResolveFault) → ¬ HasFault (declarations ast) fault

-- the first error of a tree, of those up to this place in the order
pub record IsToldUpTo (all : List Declaration) (order : ℕ) (found : Option ResolveFault) : Type 0 where
  pub told : MatchOption found ((fault : ResolveFault) → order_of fault ≤ order → ¬ HasFault all fault)
      (λ fault. HasFault all fault × ((other : ResolveFault) → HasFault all other → IsToldBefore fault other))
  pub chosen : IfSome found (IsChosen all)
