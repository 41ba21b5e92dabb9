-- Names that are declared twice, and paths that name nothing, or another kind than their place asks.
use Rattle.std.specs.Prelude.{ℕ, Bool, false, not, ◌&&◌, ◌==◌, List, [], ◌∷◌, ◌++◌, map, filter, take, length, Option, Some, None, is_some, if◌then◌else◌}
use Rattle.std.specs.List.{flat_map, list_any, filter_map}
use Rattle.std.specs.Str.{bytes_eq, str_eq_ignore_ascii_case}
use Rattle.tydi_base.specs.declared.place.Place.{Place}
use Rattle.til_parser.specs.declared.tree.AstBody.{AstBody}
use Rattle.til_parser.specs.declared.tree.AstBody.TheVariants as bodies
use Rattle.til_parser.specs.declared.tree.AstKind.{AstKind}
use Rattle.til_parser.specs.declared.tree.AstKind.TheVariants as decls
use Rattle.til_parser.specs.declared.tree.AstName.{AstName}
use Rattle.til_parser.specs.declared.tree.AstPath.{AstPath}
use Rattle.til_parser.specs.declared.tree.AstPort.{AstPort}
use Rattle.til_parser.specs.declared.tree.AstPorts.TheVariants as ports
use Rattle.til_parser.specs.declared.tree.AstStmt.{AstStmt}
use Rattle.til_parser.specs.declared.tree.AstStmt.TheVariants as stmts
use Rattle.til_parser.specs.Tree as tree
use Rattle.til_parser.specs.Tree.{plain}
use Rattle.til_resolve.specs.Paths.{is_same_path}
use Rattle.til_resolve.specs.Declarations.{Declaration, PortOf, declaration, before, nowhere, place_of, path_of}
use Rattle.til_resolve.specs.Declarations.{named, named_as, own_ports, ports_of, ports_of_streamlet, is_type, is_interface, is_streamlet}

-- ---- names that stand twice

-- the things of a list that have an equal one before them
abbrev pub again : {A : Type 0} → (A → A → Bool) → List A → List A → List A
again same before [] = []
again same before (one ∷ more) = if list_any (λ earlier. same earlier one) before then one ∷ again same (before ++ one ∷ []) more else again same (before ++ one ∷ []) more

abbrev pub seconds : {A : Type 0} → (A → A → Bool) → List A → List A
seconds same all = again same [] all

-- a declaration of a path that one before it has
abbrev pub declared_again : List Declaration → ℕ → List Place
declared_again all number =
    if list_any (λ earlier. is_same_path (path_of earlier) (path_of (declaration all number))) (take number all) then (declaration all number).name.place ∷ [] else []

-- a port with a name of its interface or streamlet, when case is ignored
abbrev pub ports_again : List AstPort → List Place
ports_again ports = map (λ port. port.name.place) (seconds (λ first second. str_eq_ignore_ascii_case first.name.name second.name.name) ports)

-- an instance, by its name and the path of its streamlet
pub record WrittenInstance : Type 0 where
  pub name : AstName
  pub streamlet : AstPath

-- the instance that a statement is, if it is one
abbrev pub instance_at : AstStmt → Option WrittenInstance
instance_at (stmts.Instance name streamlet) = Some (record { name = name; streamlet = streamlet })
instance_at (stmts.Link first second) = None

-- the instances of a body
abbrev pub instances_of : AstBody → List WrittenInstance
instances_of (bodies.Linked text) = []
instances_of (bodies.Structural all) = filter_map instance_at all

-- one of these ports has exactly this name
abbrev pub has_port : List PortOf → List ℕ → Bool
has_port all name = list_any (λ one. bytes_eq one.port.name.name name) all

-- an instance with the name of another of its body
abbrev pub instances_again : List WrittenInstance → List Place
instances_again instances = map (λ instance. instance.name.place) (seconds (λ first second. bytes_eq first.name.name second.name.name) instances)

-- an instance with the name of one of these ports
abbrev pub instances_named_as_ports : List PortOf → List WrittenInstance → List Place
instances_named_as_ports own instances = map (λ instance. instance.name.place) (filter (λ instance. has_port own instance.name.name) instances)

-- an instance with the name of another of its body, or of a port of the streamlet that the body implements: of a body behind this path after `of`
abbrev pub names_again_in_impl : List Declaration → List (List ℕ) → AstPath → AstBody → List Place
names_again_in_impl all space target body =
    instances_again (instances_of body) ++ instances_named_as_ports (ports_of_streamlet all (named_as is_streamlet all space target)) (instances_of body)

-- such instances of a declaration
abbrev pub names_again_in_body : List Declaration → Declaration → List Place
names_again_in_body all one = of_kind one.kind
  where
    of_kind : AstKind → List Place
    of_kind (decls.Alias ltype) = []
    of_kind (decls.Interface listed) = []
    of_kind (decls.Streamlet listed) = []
    of_kind (decls.Impl target body) = names_again_in_impl all one.space target body
    of_kind (decls.Test target port value plan) = []

-- the number of the streamlet that a declaration implements, if it is an `impl` whose path names a streamlet
abbrev pub implements : List Declaration → Declaration → Option ℕ
implements all one = of_kind one.kind
  where
    of_kind : AstKind → Option ℕ
    of_kind (decls.Alias ltype) = None
    of_kind (decls.Interface listed) = None
    of_kind (decls.Streamlet listed) = None
    of_kind (decls.Impl target body) = named_as is_streamlet all one.space target
    of_kind (decls.Test target port value plan) = None

-- where the path after `of` stands in an `impl`; nowhere in a declaration of another kind
abbrev pub target_place : AstKind → Place
target_place (decls.Alias ltype) = nowhere
target_place (decls.Interface listed) = nowhere
target_place (decls.Streamlet listed) = nowhere
target_place (decls.Impl target body) = place_of target
target_place (decls.Test target port value plan) = nowhere

-- there is a number, and it is this one
abbrev pub is_number : ℕ → Option ℕ → Bool
is_number one None = false
is_number one (Some number) = number == one

-- a declaration implements the streamlet of this number
abbrev pub is_impl_of : List Declaration → ℕ → Declaration → Bool
is_impl_of all streamlet one = is_number streamlet (implements all one)

-- the declaration of a number, where one before it implements this streamlet too
abbrev pub implements_again : List Declaration → ℕ → Option ℕ → List Place
implements_again all number None = []
implements_again all number (Some streamlet) = if list_any (is_impl_of all streamlet) (take number all) then (declaration all number).name.place ∷ [] else []

-- an `impl` of a streamlet that one before it implements
abbrev pub implemented_again : List Declaration → ℕ → List Place
implemented_again all number = implements_again all number (implements all (declaration all number))

-- the places of the names that a declaration declares again, by itself or after those before it
abbrev pub twice_at : List Declaration → ℕ → List Place
twice_at all number = declared_again all number ++ ports_again (own_ports (declaration all number).kind) ++ names_again_in_body all (declaration all number)

-- all places of what is declared twice
abbrev pub twice : List Declaration → List Place
twice all = before (twice_at all) (length all) ++ before (implemented_again all) (length all)

-- ---- paths that are looked up

-- a path, the namespace in which it is written, and what its place asks of a declaration
pub record Use : Type 0 where
  pub space : List (List ℕ)
  pub path : AstPath
  pub asks : Declaration → Bool

-- the paths in a type
abbrev mutual
  pub paths_in : tree.Ltype → List AstPath
  paths_in tree.null = []
  paths_in (tree.bits width) = []
  paths_in (tree.group parts) = paths_in_parts parts
  paths_in (tree.union parts) = paths_in_parts parts
  paths_in (tree.stream element user settings) = paths_in element ++ paths_in user
  paths_in (tree.path names) = record { names = names } ∷ []

  pub paths_in_parts : tree.Parts → List AstPath
  paths_in_parts tree.no_parts = []
  paths_in_parts (tree.part name ltype more) = paths_in ltype ++ paths_in_parts more

-- the paths in the types of ports
abbrev pub paths_in_ports : List AstPort → List AstPath
paths_in_ports all = flat_map (λ port. paths_in (plain port.ltype)) all

-- paths at places that ask such a declaration
abbrev pub asking : List (List ℕ) → (Declaration → Bool) → List AstPath → List Use
asking space asks paths = map (λ path. record { space = space; path = path; asks = asks }) paths

-- the paths in a declaration of a kind
abbrev pub uses_of_kind : List (List ℕ) → AstKind → List Use
uses_of_kind space (decls.Alias ltype) = asking space is_type (paths_in (plain ltype))
uses_of_kind space (decls.Interface listed) = asking space is_type (paths_in_ports listed)
uses_of_kind space (decls.Streamlet (ports.Own listed)) = asking space is_type (paths_in_ports listed)
uses_of_kind space (decls.Streamlet (ports.Named path)) = asking space is_interface (path ∷ [])
uses_of_kind space (decls.Impl target body) = asking space is_streamlet (target ∷ map (λ one. one.streamlet) (instances_of body))
uses_of_kind space (decls.Test target port value plan) = asking space is_streamlet (target ∷ [])

-- the paths in a declaration
abbrev pub uses_in : Declaration → List Use
uses_in one = uses_of_kind one.space one.kind

-- a path that names nothing
abbrev pub is_unknown : List Declaration → Use → Bool
is_unknown all one = not (is_some (named all one.space one.path))

-- a path that names a declaration of another kind than its place asks
abbrev pub is_wrong_kind : List Declaration → Use → Bool
is_wrong_kind all one = is_some (named all one.space one.path) && not (is_some (named_as one.asks all one.space one.path))

-- the port of a test, where the streamlet of a number lacks it
abbrev pub port_unknown_in : List Declaration → AstName → Option ℕ → List Place
port_unknown_in all port None = []
port_unknown_in all port (Some streamlet) = if has_port (ports_of all (declaration all streamlet)) port.name then [] else port.place ∷ []

-- the port of a test, where its streamlet lacks it
abbrev pub port_unknown : List Declaration → Declaration → List Place
port_unknown all one = of_kind one.kind
  where
    of_kind : AstKind → List Place
    of_kind (decls.Alias ltype) = []
    of_kind (decls.Interface listed) = []
    of_kind (decls.Streamlet listed) = []
    of_kind (decls.Impl target body) = []
    of_kind (decls.Test target port value plan) = port_unknown_in all port (named_as is_streamlet all one.space target)

-- the places of the paths that are refused
abbrev pub refused : (Use → Bool) → List Use → List Place
refused is uses = map (λ one. place_of one.path) (filter is uses)

-- all places of names that are unknown
abbrev pub unknown : List Declaration → List Place
unknown all = before (λ number. refused (is_unknown all) (uses_in (declaration all number)) ++ port_unknown all (declaration all number)) (length all)

-- all places of names of a wrong kind
abbrev pub wrong_kinds : List Declaration → List Place
wrong_kinds all = before (λ number. refused (is_wrong_kind all) (uses_in (declaration all number))) (length all)
