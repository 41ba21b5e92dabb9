-- Things that lead to one another, by their numbers. It serves the search for cycles, and no public clause.
use Rattle.std.specs.Prelude.{◌≡◌, ℕ, ◌+◌, ◌*◌, ◌<◌, ◌≤◌, ◌⊎◌, Bool, false, true, not, List, [], ◌∷◌, ◌++◌, length, slice_get, slice_index_or, Some, IfSome, Contains, if◌then◌else◌}
use Rattle.std.specs.List.{count_by, filter_map, sum_by}
use Rattle.til_parser.specs.declared.tree.AstPath.{AstPath}
use Rattle.til_resolve.specs.Declarations.{Declaration, declaration, before, named_as, is_type, is_streamlet}
use Rattle.til_resolve.specs.Cycles.{LeadsTo, paths_of_alias, paths_of_instances}
use Rattle.til_resolve.specs.Names.{is_impl_of}

-- the numbers to which a number leads at once
abbrev pub targets_of : List (List ℕ) → ℕ → List ℕ
targets_of graph one = slice_index_or graph one []

abbrev pub Leads : List (List ℕ) → ℕ → ℕ → Type 0
Leads graph one other = Contains (targets_of graph one) other

-- each number that another leads to is one of the graph
pub record AreNumbers (graph : List (List ℕ)) : Type 0 where
  pub within : (one other : ℕ) → Leads graph one other → other < length graph

-- a number is marked
abbrev pub IsReached : List Bool → ℕ → Type 0
IsReached reached one = slice_index_or reached one false ≡ true

-- how many are not marked
abbrev pub number_unreached : List Bool → ℕ
number_unreached reached = count_by not reached

-- these targets were marked, and those that were not before wait too
pub record Reaches (old : List Bool) (waiting targets : List ℕ) (new : List Bool) (left : List ℕ) : Type 0 where
  pub long : length new ≡ length old
  pub kept : (one : ℕ) → IsReached old one → IsReached new one
  pub hit : (one : ℕ) → Contains targets one → IsReached new one
  pub only : (one : ℕ) → IsReached new one → IsReached old one ⊎ (Contains targets one × Contains left one)
  pub stays : (one : ℕ) → Contains waiting one → Contains left one
  pub from : (one : ℕ) → Contains left one → Contains waiting one ⊎ IsReached new one
  pub less : length left + number_unreached new ≡ length waiting + number_unreached old

-- a search from a number: what is marked is led to, and what is marked, or is the start, waits or has all its targets marked
pub record Searches (graph : List (List ℕ)) (start : ℕ) (reached : List Bool) (waiting : List ℕ) : Type 0 where
  pub long : length reached ≡ length graph
  pub waits : (one : ℕ) → Contains waiting one → (one ≡ start) ⊎ IsReached reached one
  pub sound : (one : ℕ) → IsReached reached one → LeadsTo (Leads graph) start one
  pub closed : (one : ℕ) → (one ≡ start) ⊎ IsReached reached one → Contains waiting one ⊎ ((other : ℕ) → Leads graph one other → IsReached reached other)

-- ---- ranks

abbrev pub rank_of : List ℕ → ℕ → ℕ
rank_of ranks one = slice_index_or ranks one 0

-- the numbers that a number leads to at once have lower ranks
abbrev pub Falls : List ℕ → List (List ℕ) → ℕ → Type 0
Falls ranks graph one = (other : ℕ) → Leads graph one other → rank_of ranks other < rank_of ranks one

-- nothing has a higher rank than what leads to it
abbrev pub NeverRises : List ℕ → List (List ℕ) → Type 0
NeverRises ranks graph = (one other : ℕ) → Leads graph one other → rank_of ranks other ≤ rank_of ranks one

-- a number has a rank from 1 to the number of all, and what it leads to at once has a lower one
pub record IsRanked (ranks : List ℕ) (graph : List (List ℕ)) (one : ℕ) : Type 0 where
  pub above : 0 < rank_of ranks one
  pub within : rank_of ranks one ≤ length graph
  pub falls : Falls ranks graph one

-- each number before this one stands at its rank
abbrev pub AreOrdered : List ℕ → List ℕ → ℕ → Type 0
AreOrdered ranks order end = (one : ℕ) → one < end → slice_get order (rank_of ranks one) ≡ Some one

-- at the rank of each number before this one stands a number of that rank, if the order is so long
abbrev pub AreByRank : List ℕ → List ℕ → ℕ → Type 0
AreByRank ranks order end = (one : ℕ) → one < end → IfSome (slice_get order (rank_of ranks one)) (λ other. rank_of ranks other ≡ rank_of ranks one)

-- the steps of a walk over all: it begins at each number and leaves it, and goes along each edge
abbrev pub steps_over : List (List ℕ) → ℕ
steps_over graph = 2 * length graph + sum_by length graph

-- ---- the graph of types

-- the declarations of a kind that paths in a namespace name, by their numbers
abbrev pub kinds_named : (Declaration → Bool) → List Declaration → List (List ℕ) → List AstPath → List ℕ
kinds_named is all space paths = filter_map (named_as is all space) paths

-- the types that a type declaration names
abbrev pub types_at : List Declaration → ℕ → List ℕ
types_at all one = kinds_named is_type all (declaration all one).space (paths_of_alias (declaration all one).kind)

-- the same of the declarations before a number
abbrev pub type_graph : List Declaration → ℕ → List (List ℕ)
type_graph all end = before (λ one. types_at all one ∷ []) end

-- ---- the graph of streamlets

-- the streamlets of which a declaration has instances
abbrev pub streamlets_inside : List Declaration → Declaration → List ℕ
streamlets_inside all one = kinds_named is_streamlet all one.space (paths_of_instances one.kind)

-- the streamlets that a declaration puts inside a streamlet: its instances, if it is an `impl` of the streamlet
abbrev pub put_inside : List Declaration → ℕ → ℕ → List ℕ
put_inside all streamlet one = if is_impl_of all streamlet (declaration all one) then streamlets_inside all (declaration all one) else []

-- a graph has for each streamlet what the declarations before a number put inside it
pub record HasInside (all : List Declaration) (graph : List (List ℕ)) (end : ℕ) : Type 0 where
  pub long : length graph ≡ length all
  pub inside : (streamlet : ℕ) → streamlet < length all → targets_of graph streamlet ≡ before (put_inside all streamlet) end

-- a graph with what a declaration puts inside each streamlet beside what was there
pub record IsPutInside (all : List Declaration) (old : List (List ℕ)) (one : ℕ) (new : List (List ℕ)) : Type 0 where
  pub long : length new ≡ length old
  pub inside : (streamlet : ℕ) → streamlet < length all → targets_of new streamlet ≡ targets_of old streamlet ++ put_inside all streamlet one
