-- Series of values (this project's own, after the nested streams of the Tydi specification). A series of some dimensionality is a list of nests of this depth.
use Rattle.std.specs.Prelude.{ℕ, zero, suc, ◌+◌, if◌then◌else◌, List, [], ◌∷◌, ◌++◌, map, drop, Option, Some, None}
use Rattle.std.specs.List.{flat_map, filter_map}
use Rattle.logical_types.specs.Faults.{dims_taken_over}
use Rattle.logical_types.specs.Synchronicity.{is_apart}
use Rattle.logical_types.specs.Tree.{Ltype, Parts}
use Rattle.logical_types.specs.Tree as types
use Rattle.logical_types.specs.declared.ltype.Sync.{Sync}
use Rattle.logical_types.specs.declared.ltype.Sync.TheVariants as syncs
use Rattle.type_split.specs.Nodes.{StreamNode}
use Rattle.logical_value.specs.Tree.{Tree, group, union, list, tree, trees_of, members}

-- a list of these values
abbrev pub listed : List Tree → Tree
listed values = list (trees_of values)

-- a series of this dimensionality with each leaf replaced, and left out where nothing replaces it
abbrev pub replaced : (Tree → Option Tree) → ℕ → List Tree → List Tree
replaced new_leaf zero series = filter_map new_leaf series
replaced new_leaf (suc dims) series = map (λ value. listed (replaced new_leaf dims (members value))) series

-- the leaves of a series of this dimensionality, in their order
abbrev pub leaves : ℕ → List Tree → List Tree
leaves zero series = series
leaves (suc dims) series = leaves dims (flat_map members series)

-- the first part of a value: the first field of a Group, or the value that a Union holds where it selects the first variant
abbrev pub first_part : Tree → Option Tree
first_part (group (tree value more)) = Some value
first_part (union zero value) = Some value
first_part other = None

-- the parts of a value behind the first: the other fields of a Group, or a Union that selects another variant, counted from the second
abbrev pub other_parts : Tree → Option Tree
other_parts (group (tree value more)) = Some (group more)
other_parts (union (suc tag) value) = Some (union tag value)
other_parts other = None

-- so many dimensions, and others around them
abbrev pub deep : (around own : ℕ) → ℕ
deep zero own = own
deep (suc around) own = suc (deep around own)

-- the dimensionality of a Stream inside a node of this dimensionality
abbrev pub dims_inside : Sync → (around own : ℕ) → ℕ
dims_inside sync around own = deep (dims_taken_over sync around) own

-- ---- the roots of a value

-- the Streams of a type that are roots
abbrev mutual
  pub number_of_roots : Ltype → ℕ
  number_of_roots types.null = 0
  number_of_roots (types.bits width) = 0
  number_of_roots (types.group parts) = roots_of_parts parts
  number_of_roots (types.union parts) = roots_of_parts parts
  number_of_roots (types.stream element user settings) = (if is_apart settings.sync then 1 else 0) + number_of_roots element

  pub roots_of_parts : Parts → ℕ
  roots_of_parts types.no_parts = 0
  roots_of_parts (types.part name ltype more) = number_of_roots ltype + roots_of_parts more

-- the series of the first of these roots
abbrev pub first_series : List (List Tree) → List Tree
first_series [] = []
first_series (series ∷ more) = series

-- the series of this number among these
abbrev pub series_at : ℕ → List (List Tree) → List Tree
series_at number [] = []
series_at zero (series ∷ more) = series
series_at (suc number) (series ∷ more) = series_at number more

-- ---- the series of nodes

-- a node: the type of its elements, its dimensionality, and its series
pub record NodeSeries : Type 0 where
  pub element : Ltype
  pub dims : ℕ
  pub series : List Tree

-- the series of a Stream. The given series, of so many dimensions, has in each leaf the value at the Stream's place: a Sync Stream has these values in the
-- lists around them, a Flatten Stream has them one after another, and a root has the next of the series of roots.
abbrev pub series_inside : Sync → ℕ → List Tree → List (List Tree) → List Tree
series_inside syncs.Sync dims series roots = series
series_inside syncs.Flatten dims series roots = leaves dims series
series_inside syncs.Desync dims series roots = first_series roots
series_inside syncs.FlatDesync dims series roots = first_series roots

-- the series of the roots behind a Stream
abbrev pub roots_behind : Sync → List (List Tree) → List (List Tree)
roots_behind syncs.Sync roots = roots
roots_behind syncs.Flatten roots = roots
roots_behind syncs.Desync roots = drop 1 roots
roots_behind syncs.FlatDesync roots = drop 1 roots

-- the Streams of a type in preorder, each with its series. The series that is given has so many dimensions, and its leaves are values of the type: for a
-- part each leaf is replaced by its part, and left out where a Union selects another variant.
abbrev mutual
  pub series_in : ℕ → List Tree → List (List Tree) → Ltype → List NodeSeries
  series_in dims series roots types.null = []
  series_in dims series roots (types.bits width) = []
  series_in dims series roots (types.group parts) = series_in_parts dims series roots parts
  series_in dims series roots (types.union parts) = series_in_parts dims series roots parts
  series_in dims series roots (types.stream element user settings) =
      record { element = element; dims = dims_inside settings.sync dims settings.dims; series = series_inside settings.sync dims series roots }
      ∷ series_in (dims_inside settings.sync dims settings.dims) (series_inside settings.sync dims series roots) (roots_behind settings.sync roots) element

  pub series_in_parts : ℕ → List Tree → List (List Tree) → Parts → List NodeSeries
  series_in_parts dims series roots types.no_parts = []
  series_in_parts dims series roots (types.part name ltype more) =
      series_in dims (replaced first_part dims series) roots ltype ++ series_in_parts dims (replaced other_parts dims series) (drop (number_of_roots ltype) roots) more

-- the nodes of a port in their order, each with its series, from the outermost node and the series of the roots
abbrev pub series_of_nodes : List StreamNode → List (List Tree) → List NodeSeries
series_of_nodes [] roots = []
series_of_nodes (outermost ∷ others) roots =
    record { element = outermost.element; dims = outermost.params.dims; series = first_series roots }
    ∷ series_in outermost.params.dims (first_series roots) (drop 1 roots) outermost.element
