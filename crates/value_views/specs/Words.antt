-- The series that views give, in which whatever stands for a Stream is apart (this project's own, after the nested streams of the Tydi specification).
use Rattle.std.specs.Prelude.{ℕ, zero, suc, ◌+◌, Bool, ◌&&◌, ◌||◌, if◌then◌else◌, List, [], ◌∷◌, ◌++◌, map, take, drop, Option, Some, None, is_some}
use Rattle.tydi_base.specs.Bits.{number_of_bits}
use Rattle.logical_types.specs.Tree.{Ltype, Parts, number_of_parts}
use Rattle.logical_types.specs.Tree as types
use Rattle.logical_types.specs.Width.{width_of, tag_width}
use Rattle.type_split.specs.Carried.{is_tied, has_carried}
use Rattle.type_split.specs.Nodes.{StreamNode, is_physical, number_of_physical, number_of_streams}
use Rattle.type_split.specs.Streams.{PlainSplit}
use Rattle.nest_shape.specs.Tree.{leaf}
use Rattle.nest_shape.specs.Tree as nests
use Rattle.logical_value.specs.Agreement.{first_of}
use Rattle.logical_value.specs.Tree.{Tree, null, word, group, union, list, apart, Trees, no_trees, tree, members}
use Rattle.value_views.specs.Series.{listed, dims_inside, series_at}

-- ---- the values of words

-- the value for which a word stands, with whatever stands for a Stream apart. The lowest bits of a Union's word number its variant.
abbrev mutual
  pub value_of : Ltype → List Bool → Tree
  value_of types.null bits = null
  value_of (types.bits width) bits = word bits
  value_of (types.group parts) bits = group (values_of parts bits)
  value_of (types.union parts) bits =
      union (number_of_bits (take (tag_width (number_of_parts parts)) bits))
      (variant_of parts (number_of_bits (take (tag_width (number_of_parts parts)) bits)) (drop (tag_width (number_of_parts parts)) bits))
  value_of (types.stream element user settings) bits = apart

  -- the values of parts, whose words stand one after another
  pub values_of : Parts → List Bool → Trees
  values_of types.no_parts bits = no_trees
  values_of (types.part name ltype more) bits = tree (value_of ltype (take (width_of ltype) bits)) (values_of more (drop (width_of ltype) bits))

  -- the value of the variant of this number, whose word stands in the lowest bits
  pub variant_of : Parts → ℕ → List Bool → Tree
  variant_of types.no_parts tag bits = null
  variant_of (types.part name ltype more) zero bits = value_of ltype (take (width_of ltype) bits)
  variant_of (types.part name ltype more) (suc tag) bits = variant_of more tag bits

-- a nest of words with the value of each word in its place
abbrev mutual
  pub unpacked : Ltype → nests.Tree → Tree
  unpacked element (leaf bits) = value_of element bits
  unpacked element (nests.list parts) = list (unpacked_all element parts)

  -- nests of words with the value of each word in its place
  pub unpacked_all : Ltype → nests.Trees → Trees
  unpacked_all element nests.no_trees = no_trees
  unpacked_all element (nests.tree first more) = tree (unpacked element first) (unpacked_all element more)

-- ---- nodes without a physical stream

-- a nest of this depth with each leaf replaced
abbrev pub in_nest : (Tree → Tree) → ℕ → Tree → Tree
in_nest new_leaf zero value = new_leaf value
in_nest new_leaf (suc depth) value = listed (map (in_nest new_leaf depth) (members value))

-- the one value of an element that has no bits, with whatever stands for a Stream apart
abbrev mutual
  pub blank_of : Ltype → Tree
  blank_of types.null = null
  blank_of (types.bits width) = word []
  blank_of (types.group parts) = group (blanks_of parts)
  blank_of (types.union parts) = union 0 (blank_variant parts)
  blank_of (types.stream element user settings) = apart

  -- the one value of each of these parts
  pub blanks_of : Parts → Trees
  blanks_of types.no_parts = no_trees
  blanks_of (types.part name ltype more) = tree (blank_of ltype) (blanks_of more)

  -- the one value of the first variant
  pub blank_variant : Parts → Tree
  blank_variant types.no_parts = null
  blank_variant (types.part name ltype more) = blank_of ltype

-- a Stream is Sync and carried
abbrev pub is_carried_child : Ltype → Ltype → types.Settings → Bool
is_carried_child element user settings = is_tied settings.sync && (is_physical element user settings || has_carried element)

-- the series of the first Stream of a type, in no other Stream of it, that is Sync and carried. Each node has the series of its number, and the
-- first Stream of the type has this number.
abbrev mutual
  pub first_carried : (ℕ → List Tree) → ℕ → Ltype → Option (List Tree)
  first_carried series_of number types.null = None
  first_carried series_of number (types.bits width) = None
  first_carried series_of number (types.group parts) = first_carried_in series_of number parts
  first_carried series_of number (types.union parts) = first_carried_in series_of number parts
  first_carried series_of number (types.stream element user settings) = if is_carried_child element user settings then Some (series_of number) else None

  pub first_carried_in : (ℕ → List Tree) → ℕ → Parts → Option (List Tree)
  first_carried_in series_of number types.no_parts = None
  first_carried_in series_of number (types.part name ltype more) =
      first_of (first_carried series_of number ltype) (first_carried_in series_of (number_of_streams ltype + number) more)

-- a series, none being empty
abbrev pub some_series : Option (List Tree) → List Tree
some_series None = []
some_series (Some series) = series

-- the series of a node of so many dimensions, whose elements have no bits: that of its first carried Sync child, cut above the child's own dimensions, with
-- the one value of the elements in each leaf
abbrev pub blank_series : Ltype → ℕ → Option (List Tree) → List Tree
blank_series element dims shape = map (in_nest (λ (value : Tree). blank_of element) dims) (some_series shape)

-- ---- the series that views give

-- the first of these views
abbrev pub first_view : List (List nests.Tree) → List nests.Tree
first_view [] = []
first_view (view ∷ more) = view

-- the views behind a node
abbrev pub views_behind : Bool → List (List nests.Tree) → List (List nests.Tree)
views_behind physical views = if physical then drop 1 views else views

-- the series of a node with such elements and so many dimensions. A node with a physical stream has the first of the views, with the value of each word in
-- its place. Any other has the lists of its first carried Sync child, and the nodes inside it have the series given last.
abbrev pub given_series : Bool → Ltype → ℕ → List (List nests.Tree) → List (List Tree) → List Tree
given_series physical element dims views inside =
    if physical then map (unpacked element) (first_view views) else blank_series element dims (first_carried (λ number. series_at number inside) 0 element)

-- the Streams of a type in preorder, each with the series that the views give it. The node around the type has so many dimensions, and the views are those of
-- the physical streams from the type's first on.
abbrev mutual
  pub given_in : ℕ → List (List nests.Tree) → Ltype → List (List Tree)
  given_in dims views types.null = []
  given_in dims views (types.bits width) = []
  given_in dims views (types.group parts) = given_in_parts dims views parts
  given_in dims views (types.union parts) = given_in_parts dims views parts
  given_in dims views (types.stream element user settings) =
      given_series (is_physical element user settings) element (dims_inside settings.sync dims settings.dims) views
      (given_in (dims_inside settings.sync dims settings.dims) (views_behind (is_physical element user settings) views) element)
      ∷ given_in (dims_inside settings.sync dims settings.dims) (views_behind (is_physical element user settings) views) element

  pub given_in_parts : ℕ → List (List nests.Tree) → Parts → List (List Tree)
  given_in_parts dims views types.no_parts = []
  given_in_parts dims views (types.part name ltype more) = given_in dims views ltype ++ given_in_parts dims (drop (number_of_physical ltype) views) more

-- the nodes of a port in their order, each with the series that the views of the physical streams give it
abbrev pub given_of_nodes : List StreamNode → List (List nests.Tree) → List (List Tree)
given_of_nodes [] views = []
given_of_nodes (outermost ∷ others) views =
    given_series (is_some outermost.phys) outermost.element outermost.params.dims views
    (given_in outermost.params.dims (views_behind (is_some outermost.phys) views) outermost.element)
    ∷ given_in outermost.params.dims (views_behind (is_some outermost.phys) views) outermost.element

-- the series that the views of a port's physical streams give to the node of this number
abbrev pub given_at : PlainSplit → List (List nests.Tree) → ℕ → List Tree
given_at split views number = series_at number (given_of_nodes split.nodes views)
