-- Tables with an entry for the type of each declaration, each made of the entries of the types that it names. It serves the making of such
-- tables, and no public clause.
use Rattle.std.specs.Prelude.{◌≡◌, ℕ, suc, ◌<◌, ◌≤◌, ◌⊎◌, List, length, slice_index_or, Some, Contains}
use Rattle.til_parser.specs.declared.tree.AstPath.{AstPath}
use Rattle.til_parser.specs.Tree as tree
use Rattle.logical_types.specs.Tree.{Ltype}
use Rattle.til_resolve.specs.Cycles.{paths_of_alias}
use Rattle.til_resolve.specs.Declarations.{Declaration, declaration, named_as, is_type}
use Rattle.til_resolve.specs.Graph.{rank_of}
use Rattle.til_resolve.specs.Names.{paths_in}
use Rattle.til_resolve.specs.Shapes.{type_at}
use Rattle.til_resolve.specs.Types.{meaning_of, replaced}

-- a table has the entry of each declaration, with so many names replaced inside one another at most
pub record AreEntries {X : Type 0} (least : X) (Is : Ltype → X → Type 0) (all : List Declaration) (depth : ℕ) (table : List X) : Type 0 where
  pub each : (one : ℕ) → one < length all → Is (type_at all depth one) (slice_index_or table one least)

-- a table has the entries of the declarations that paths in a namespace name, and of each other the entry or the least
pub record IsReady {X : Type 0} (least : X) (Is : Ltype → X → Type 0) (all : List Declaration) (space : List (List ℕ)) (paths : List AstPath) (table : List X) (depth : ℕ) : Type 0 where
  pub named : (path : AstPath) (one : ℕ) → Contains paths path → named_as is_type all space path ≡ Some one → Is (type_at all depth one) (slice_index_or table one least)
  pub rest : (one : ℕ) → one < length all → (slice_index_or table one least ≡ least) ⊎ Is (type_at all depth one) (slice_index_or table one least)

-- the entry made of a table for a written type is the type's entry, where the table is ready for that
abbrev pub IsMadeOf : {X : Type 0} → X → (Ltype → X → Type 0) → List Declaration → List (List ℕ) → tree.Ltype → List X → X → Type 0
IsMadeOf least Is all space t table made = (depth : ℕ) → IsReady least Is all space (paths_in t) table depth → Is (replaced (meaning_of all depth space) t) made

-- the same for the type of a declaration, which has one name more replaced
abbrev pub IsMadeFor : {X : Type 0} → X → (Ltype → X → Type 0) → List Declaration → ℕ → List X → X → Type 0
IsMadeFor least Is all one table made =
    (depth : ℕ) → IsReady least Is all (declaration all one).space (paths_of_alias (declaration all one).kind) table depth → Is (type_at all (suc depth) one) made

-- the entries of the declarations before a number, made of another table
pub record AreMadeOf {X : Type 0} (least : X) (Is : Ltype → X → Type 0) (all : List Declaration) (table : List X) (end : ℕ) (next : List X) : Type 0 where
  pub long : length next ≡ end
  pub each : (one : ℕ) → one < end → IsMadeFor least Is all one table (slice_index_or next one least)

-- a table has the entry of each declaration whose rank is lower than this, however many names are replaced inside one another from
-- its rank on, and of each other the least
pub record AreEntriesBelow {X : Type 0} (least : X) (Is : Ltype → X → Type 0) (all : List Declaration) (ranks : List ℕ) (end : ℕ) (table : List X) : Type 0 where
  pub long : length table ≡ length all
  pub each : (one depth : ℕ) → one < length all → rank_of ranks one < end → rank_of ranks one ≤ depth → Is (type_at all depth one) (slice_index_or table one least)
  pub rest : (one : ℕ) → one < length all → end ≤ rank_of ranks one → slice_index_or table one least ≡ least
