-- Declarations with the numbers by which they are looked up. It serves the look-ups, and no public clause.
use Rattle.std.specs.Prelude.{◌≡◌, ℕ, nat_eq, ◌&&◌, List, [], ◌∷◌, map, position, Option, Some, All}
use Rattle.std.specs.Borrow.{Bor}
use Rattle.std.specs.Str.{bytes_eq}
use Rattle.til_parser.specs.declared.tree.AstName.{AstName}
use Rattle.til_resolve.specs.Ordered.{Key}
use Rattle.til_resolve.specs.Paths.{is_same_path, texts_of}
use Rattle.til_resolve.specs.declared.declared.Declared.{Declared}
use Rattle.til_resolve.specs.Declarations.{Declaration}

-- a declaration, and the number of its namespace's path among the paths of all namespaces
pub record Placed : Type 0 where
  pub declaration : Declaration
  pub home : ℕ

-- the declarations alone
abbrev pub declarations_in : List Placed → List Declaration
declarations_in placed = map (λ one. one.declaration) placed

-- a declaration whose namespace has this number
abbrev pub placed_at : ℕ → Declaration → Placed
placed_at home one = record { declaration = one; home = home }

-- the declaration and its home that the data kept of it stands for
abbrev pub placed_of : Declared → Placed
placed_of one = record { declaration = record { space = texts_of one.space.now; name = one.name.now; kind = one.kind.now }; home = one.home }

abbrev pub placed : List Declared → List Placed
placed all = map placed_of all

abbrev pub declarations_of : List Declared → List Declaration
declarations_of all = declarations_in (placed all)

-- the namespace that is meant by the names before the last one of a path: with none before, the path's own
abbrev pub space_meant : List (List ℕ) → List AstName → List (List ℕ)
space_meant own [] = own
space_meant own (first ∷ more) = texts_of (first ∷ more)

-- the number of a namespace's path among these paths
abbrev pub home_of : List (Bor (List AstName)) → List (List ℕ) → Option ℕ
home_of spaces space = position (λ one. is_same_path (texts_of one.now) space) spaces

-- the number of the first of these declarations that has this name in this namespace
abbrev pub first_at : List Placed → ℕ → List ℕ → Option ℕ
first_at all home name = position (λ one. nat_eq one.home home && bytes_eq one.declaration.name.name name) all

-- each declaration has the number of its namespace
abbrev pub AreHome : List (Bor (List AstName)) → List Placed → Type 0
AreHome spaces all = All (λ one. home_of spaces one.declaration.space ≡ Some one.home) all

-- a look-up finds the first of these declarations
abbrev pub FindsFirst : (Key → Option ℕ) → List Placed → Type 0
FindsFirst find all = (key : Key) → find key ≡ first_at all key.0 key.1

-- a look-up finds the number of each of these paths
abbrev pub FindsSpaces : (List (List ℕ) → Option ℕ) → List (Bor (List AstName)) → Type 0
FindsSpaces find spaces = (space : List (List ℕ)) → find space ≡ home_of spaces space

-- the facts that look-ups rest on
pub record IsScope (spaces : List (Bor (List AstName))) (find_space : List (List ℕ) → Option ℕ) (find : Key → Option ℕ) (all : List Placed) : Type 0 where
  pub finds_spaces : FindsSpaces find_space spaces
  pub homes : AreHome spaces all
  pub finds : FindsFirst find all
