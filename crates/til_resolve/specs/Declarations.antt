-- The declarations of a project, and what a path names (the Tydi Intermediate Language; its names are this project's own).
use Rattle.std.specs.Prelude.{ℕ, zero, suc, Bool, true, false, ◌==◌, List, [], ◌∷◌, ◌++◌, map, position, slice_index_or, length, Option, Some, None, if◌then◌else◌}
use Rattle.std.specs.List.{flat_map}
use Rattle.tydi_base.specs.declared.place.Place.{Place}
use Rattle.til_parser.specs.declared.tree.Ast.{Ast}
use Rattle.til_parser.specs.declared.tree.AstKind.{AstKind}
use Rattle.til_parser.specs.declared.tree.AstKind.TheVariants as decls
use Rattle.til_parser.specs.declared.tree.AstName.{AstName}
use Rattle.til_parser.specs.declared.tree.AstNamespace.{AstNamespace}
use Rattle.til_parser.specs.declared.tree.AstPath.{AstPath}
use Rattle.til_parser.specs.declared.tree.AstPort.{AstPort}
use Rattle.til_parser.specs.declared.tree.AstPorts.TheVariants as ports
use Rattle.til_resolve.specs.Paths.{is_same_path}

-- a declaration, with the names of its namespace
pub record Declaration : Type 0 where
  pub space : List (List ℕ)
  pub name : AstName
  pub kind : AstKind

-- the names of a path
abbrev pub names_of : AstPath → List (List ℕ)
names_of path = map (λ one. one.name) path.names

-- a place in no text
abbrev pub nowhere : Place
nowhere = record { offset = 0; line = 0; column = 0 }

-- where a path stands: at its first name
abbrev pub place_of : AstPath → Place
place_of path = first_place path.names
  where
    first_place : List AstName → Place
    first_place [] = nowhere
    first_place (first ∷ more) = first.place

-- the declarations of a namespace
abbrev pub declared_in : AstNamespace → List Declaration
declared_in namespace = map (λ decl. record { space = names_of namespace.path; name = decl.name; kind = decl.kind }) namespace.decls

-- all declarations, in text order: namespaces of one path are one
abbrev pub declarations : Ast → List Declaration
declarations ast = flat_map declared_in ast.namespaces

-- the declaration of a number, counted from 0 in text order; an empty one where there is none
abbrev pub declaration : List Declaration → ℕ → Declaration
declaration all number = slice_index_or all number (record { space = []; name = record { name = []; place = nowhere }; kind = decls.Interface [] })

-- the list gathered at the declarations before a number, in text order
abbrev pub before : {A : Type 0} → (ℕ → List A) → ℕ → List A
before of zero = []
before of (suc number) = before of number ++ of number

-- the whole path of a declaration
abbrev pub path_of : Declaration → List (List ℕ)
path_of one = one.space ++ one.name.name ∷ []

-- the whole path that a path means in a namespace: one name means a declaration of the same namespace, a longer path is whole
abbrev pub meant : List (List ℕ) → AstPath → List (List ℕ)
meant space path = if length path.names == 1 then space ++ names_of path else names_of path

-- the number of the first declaration of a whole path
abbrev pub first_of_path : List Declaration → List (List ℕ) → Option ℕ
first_of_path all path = position (λ one. is_same_path (path_of one) path) all

-- the number of the declaration that a path names in a namespace: the first one of that whole path
abbrev pub named : List Declaration → List (List ℕ) → AstPath → Option ℕ
named all space path = first_of_path all (meant space path)

-- ---- kinds

abbrev pub is_type_kind : AstKind → Bool
is_type_kind (decls.Alias ltype) = true
is_type_kind (decls.Interface all) = false
is_type_kind (decls.Streamlet all) = false
is_type_kind (decls.Impl target body) = false
is_type_kind (decls.Test target port value plan) = false

abbrev pub is_interface_kind : AstKind → Bool
is_interface_kind (decls.Alias ltype) = false
is_interface_kind (decls.Interface all) = true
is_interface_kind (decls.Streamlet all) = false
is_interface_kind (decls.Impl target body) = false
is_interface_kind (decls.Test target port value plan) = false

abbrev pub is_streamlet_kind : AstKind → Bool
is_streamlet_kind (decls.Alias ltype) = false
is_streamlet_kind (decls.Interface all) = false
is_streamlet_kind (decls.Streamlet all) = true
is_streamlet_kind (decls.Impl target body) = false
is_streamlet_kind (decls.Test target port value plan) = false

abbrev pub is_type : Declaration → Bool
is_type one = is_type_kind one.kind

abbrev pub is_interface : Declaration → Bool
is_interface one = is_interface_kind one.kind

abbrev pub is_streamlet : Declaration → Bool
is_streamlet one = is_streamlet_kind one.kind

-- a number, if its declaration is of this kind
abbrev pub kept_as : (Declaration → Bool) → List Declaration → Option ℕ → Option ℕ
kept_as is all None = None
kept_as is all (Some number) = if is (declaration all number) then Some number else None

-- the number of the declaration that a path names, if it is of this kind
abbrev pub named_as : (Declaration → Bool) → List Declaration → List (List ℕ) → AstPath → Option ℕ
named_as is all space path = kept_as is all (named all space path)

-- ---- ports

-- the ports that a declaration writes out: of an interface, or of a streamlet with its own
abbrev pub own_ports : AstKind → List AstPort
own_ports (decls.Alias ltype) = []
own_ports (decls.Interface all) = all
own_ports (decls.Streamlet (ports.Own all)) = all
own_ports (decls.Streamlet (ports.Named path)) = []
own_ports (decls.Impl target body) = []
own_ports (decls.Test target port value plan) = []

-- a port, with the namespace in which its type is written
pub record PortOf : Type 0 where
  pub space : List (List ℕ)
  pub port : AstPort

-- the ports that a declaration writes out, each with its namespace
abbrev pub ports_in : Declaration → List PortOf
ports_in one = map (λ port. record { space = one.space; port = port }) (own_ports one.kind)

-- the ports that the declaration of a number writes out, if there is a number
abbrev pub ports_of_number : List Declaration → Option ℕ → List PortOf
ports_of_number all None = []
ports_of_number all (Some number) = ports_in (declaration all number)

-- the ports of a streamlet: its own, or those of the interface that it names; none where it names no interface
abbrev pub ports_of : List Declaration → Declaration → List PortOf
ports_of all one = of_kind one.kind
  where
    of_kind : AstKind → List PortOf
    of_kind (decls.Alias ltype) = []
    of_kind (decls.Interface listed) = []
    of_kind (decls.Streamlet (ports.Own listed)) = ports_in one
    of_kind (decls.Streamlet (ports.Named path)) = ports_of_number all (named_as is_interface all one.space path)
    of_kind (decls.Impl target body) = []
    of_kind (decls.Test target port value plan) = []

-- the ports of the streamlet of a number, if there is a number
abbrev pub ports_of_streamlet : List Declaration → Option ℕ → List PortOf
ports_of_streamlet all None = []
ports_of_streamlet all (Some number) = ports_of all (declaration all number)
