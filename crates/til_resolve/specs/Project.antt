-- The project that a tree without faults stands for.
use Rattle.std.specs.Prelude.{◌≡◌, ℕ, List, [], ◌∷◌, map, filter, length, Option, Some, None, IfSome, if◌then◌else◌}
use Rattle.std.specs.List.{filter_map, range_with_len}
use Rattle.til_parser.specs.declared.tree.Ast.{Ast}
use Rattle.til_parser.specs.declared.tree.AstBody.{AstBody}
use Rattle.til_parser.specs.declared.tree.AstBody.TheVariants as bodies
use Rattle.til_parser.specs.declared.tree.AstEnd.{AstEnd}
use Rattle.til_parser.specs.declared.tree.AstKind.{AstKind}
use Rattle.til_parser.specs.declared.tree.AstKind.TheVariants as decls
use Rattle.til_parser.specs.declared.tree.AstName.{AstName}
use Rattle.til_parser.specs.declared.tree.AstPath.{AstPath}
use Rattle.til_parser.specs.declared.tree.AstStmt.{AstStmt}
use Rattle.til_parser.specs.declared.tree.AstStmt.TheVariants as stmts
use Rattle.til_parser.specs.Tree.{plain}
use Rattle.logical_types.specs.Tree.{plain_of_stream}
use Rattle.til_resolve.specs.Declarations.{Declaration, PortOf, declaration, declarations, place_of, path_of, named_as, ports_of, is_streamlet}
use Rattle.til_resolve.specs.NumberedTypes.{numbered_type}
use Rattle.til_resolve.specs.Types.{type_of}
use Rattle.til_resolve.specs.Names.{WrittenInstance, instance_at, is_impl_of}
use Rattle.til_resolve.specs.declared.project.Project.{Project}
use Rattle.til_resolve.specs.declared.project.Streamlet.{Streamlet}
use Rattle.til_resolve.specs.declared.project.Port.{Port}
use Rattle.til_resolve.specs.declared.project.Impl.{Impl}
use Rattle.til_resolve.specs.declared.project.Impl.TheVariants as impls
use Rattle.til_resolve.specs.declared.project.Instance.{Instance}
use Rattle.til_resolve.specs.declared.project.Link.{Link}
use Rattle.til_resolve.specs.declared.project.LinkEnd.{LinkEnd}
use Rattle.til_resolve.specs.declared.project.Test.{Test}

-- two lists are as long, and their things in order are related
abbrev pub Pairwise : {A B : Type 0} → (A → B → Type 0) → List A → List B → Type 0
Pairwise Related [] [] = Unit {0}
Pairwise Related [] (y ∷ ys) = ⊥
Pairwise Related (x ∷ xs) [] = ⊥
Pairwise Related (x ∷ xs) (y ∷ ys) = Related x y × Pairwise Related xs ys

-- ---- streamlets by their numbers

-- the numbers of the streamlets, in text order, among those of the declarations before a number
abbrev pub streamlets_before : List Declaration → ℕ → List ℕ
streamlets_before all end = filter (λ number. is_streamlet (declaration all number)) (range_with_len 0 end)

-- the numbers of all streamlets
abbrev pub streamlet_numbers : List Declaration → List ℕ
streamlet_numbers all = streamlets_before all (length all)

-- the number of a declaration among the streamlets alone: so many stand before it
abbrev pub streamlet_number : List Declaration → ℕ → ℕ
streamlet_number all number = length (streamlets_before all number)

-- the same of the streamlet of a number, if there is one; else 0
abbrev pub numbered : List Declaration → Option ℕ → ℕ
numbered all None = 0
numbered all (Some streamlet) = streamlet_number all streamlet

-- the number of the streamlet that a path names; 0 where it names none, which is reported before
abbrev pub number_of : List Declaration → List (List ℕ) → AstPath → ℕ
number_of all space path = numbered all (named_as is_streamlet all space path)

-- ---- implementations

-- an instance of a body, whose streamlet's path stands in this namespace
abbrev pub instance_of : List Declaration → List (List ℕ) → WrittenInstance → Instance
instance_of all space one = record { name = one.name.name; streamlet = number_of all space one.streamlet }

-- the instances of a body
abbrev pub instances_in : List Declaration → List (List ℕ) → List AstStmt → List Instance
instances_in all space written = map (instance_of all space) (filter_map instance_at written)

-- an end of a link by its names: `port`, or `instance.port`
abbrev pub end_by : AstName → Option AstName → LinkEnd
end_by first None = record { instance = None; port = first.name }
end_by first (Some port) = record { instance = Some first.name; port = port.name }

abbrev pub end_of : AstEnd → LinkEnd
end_of end = end_by end.first end.second

-- the link that a statement is, if it is one, at its first name
abbrev pub link_at : AstStmt → Option Link
link_at (stmts.Instance name streamlet) = None
link_at (stmts.Link first second) = Some (record { first = end_of first; second = end_of second; place = first.first.place })

-- the links of a body
abbrev pub links_of : List AstStmt → List Link
links_of written = filter_map link_at written

-- the implementation that a body is, behind this path after `of`
abbrev pub impl_of : List Declaration → List (List ℕ) → AstPath → AstBody → Impl
impl_of all space target (bodies.Linked text) = impls.Linked text
impl_of all space target (bodies.Structural written) = impls.Structural (place_of target) (instances_in all space written) (links_of written)

-- the implementation of the streamlet of a number, if a declaration is one
abbrev pub impl_by : List Declaration → ℕ → Declaration → Option Impl
impl_by all streamlet one = of_kind one.kind
  where
    of_kind : AstKind → Option Impl
    of_kind (decls.Alias ltype) = None
    of_kind (decls.Interface listed) = None
    of_kind (decls.Streamlet listed) = None
    of_kind (decls.Impl target body) = if is_impl_of all streamlet one then Some (impl_of all one.space target body) else None
    of_kind (decls.Test target port value plan) = None

-- the first of these, if there is one
abbrev pub first_of : {A : Type 0} → List A → Option A
first_of [] = None
first_of (one ∷ more) = Some one

-- the implementation of the streamlet of a number
abbrev pub body_of : List Declaration → ℕ → Option Impl
body_of all streamlet = first_of (filter_map (impl_by all streamlet) all)

-- ---- streamlets and tests

-- a port of the project is a written one
pub record IsPortOf (all : List Declaration) (one : PortOf) (port : Port) : Type 0 where
  pub name_is : port.name ≡ one.port.name.name
  pub inward_is : port.inward ≡ one.port.inward
  pub type_is : plain_of_stream port.ltype.value ≡ type_of all one.space (plain one.port.ltype)
  pub declared_is : IfSome port.declared (λ number. type_of all one.space (plain one.port.ltype) ≡ numbered_type all number)

-- a streamlet of the project is the written one of this number
pub record IsStreamletOf (all : List Declaration) (one : ℕ) (streamlet : Streamlet) : Type 0 where
  pub path_is : streamlet.path ≡ path_of (declaration all one)
  pub ports_are : Pairwise (IsPortOf all) (ports_of all (declaration all one)) streamlet.ports
  pub body_is : streamlet.body ≡ body_of all one

-- the test that a declaration is, if it is one
abbrev pub test_of : List Declaration → Declaration → Option Test
test_of all one = of_kind one.kind
  where
    of_kind : AstKind → Option Test
    of_kind (decls.Alias ltype) = None
    of_kind (decls.Interface listed) = None
    of_kind (decls.Streamlet listed) = None
    of_kind (decls.Impl target body) = None
    of_kind (decls.Test target port value plan) = Some (record { path = path_of one; streamlet = number_of all one.space target; port = port.name; value = value; plan = plan })

-- the tests that declarations are, in text order
abbrev pub tests_in : List Declaration → List Declaration → List Test
tests_in all some = filter_map (test_of all) some

-- a project is that of a tree: its streamlets and its tests, in text order
pub record IsProjectOf (ast : Ast) (project : Project) : Type 0 where
  pub streamlets_are : Pairwise (IsStreamletOf (declarations ast)) (streamlet_numbers (declarations ast)) project.streamlets
  pub tests_are : project.tests ≡ tests_in (declarations ast) (declarations ast)
