-- The declarations of a tree with the numbers of their namespaces. It serves the look-ups, and no public clause.
use Rattle.std.specs.Prelude.{◌≡◌, ℕ, Bool, List, [], ◌∷◌, ◌++◌, if◌then◌else◌}
use Rattle.std.specs.Borrow.{Bor}
use Rattle.std.specs.List.{list_any, position_or_len}
use Rattle.til_parser.specs.declared.tree.AstName.{AstName}
use Rattle.til_resolve.specs.Paths.{is_same_path, texts_of}
use Rattle.til_resolve.specs.Declarations.{Declaration}
use Rattle.std.specs.BTreeMap.{get}
use Rattle.til_resolve.specs.Ordered.{by_path}
use Rattle.til_resolve.specs.Scope.{AreHome, FindsSpaces, placed, declarations_of}
use Rattle.til_resolve.specs.declared.placing.Placing.{Placing}

-- a path is this one
abbrev pub is_space : Bor (List AstName) → Bor (List AstName) → Bool
is_space space one = is_same_path (texts_of one.now) (texts_of space.now)

-- a list of paths with one that is put behind them where it is missing
abbrev pub with_space : List (Bor (List AstName)) → Bor (List AstName) → List (Bor (List AstName))
with_space spaces space = if list_any (is_space space) spaces then spaces else spaces ++ space ∷ []

-- the number of a path among these, or of the place behind them
abbrev pub place_in : List (Bor (List AstName)) → Bor (List AstName) → ℕ
place_in spaces space = position_or_len (is_space space) spaces

-- these declarations, each with the number of its namespace
pub record IsPlaced (placing : Placing) (all : List Declaration) : Type 0 where
  pub declarations : declarations_of placing.declared ≡ all
  pub finds : FindsSpaces (get by_path placing.spaces.numbers) placing.spaces.keys
  pub homes : AreHome placing.spaces.keys (placed placing.declared)
