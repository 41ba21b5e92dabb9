-- Views of values, and the items that carry them (this project's own, after the nested streams of the Tydi specification).
use Rattle.std.specs.Prelude.{◌≡◌, ℕ, zero, suc, true, List, [], ◌∷◌, length, map, Option, Some, None, option_map, slice_get}
use Rattle.physical_stream.specs.declared.item.Item.{Item}
use Rattle.logical_types.specs.Tree.{Ltype}
use Rattle.logical_types.specs.Width.{width_of}
use Rattle.type_split.specs.Streams.{PlainSplit}
use Rattle.type_split.specs.declared.split.Phys.{Phys}
use Rattle.nest_shape.specs.Flat.{flat_all}
use Rattle.nest_shape.specs.Tree.{leaf, list_of, trees_of}
use Rattle.nest_shape.specs.Tree as nests
use Rattle.logical_value.specs.Agreement.{Agrees}
use Rattle.logical_value.specs.Fits.{fits_split}
use Rattle.logical_value.specs.Packed.{pack_of}
use Rattle.logical_value.specs.Tree.{Tree, members}
use Rattle.value_views.specs.Series.{NodeSeries, series_of_nodes}

-- ---- views

-- a list of these nests
abbrev pub nest_of : List nests.Tree → nests.Tree
nest_of parts = nests.list (trees_of parts)

-- a nest of this depth with each leaf replaced by its word
abbrev pub packed : Ltype → ℕ → Tree → nests.Tree
packed element zero value = leaf (pack_of element value)
packed element (suc depth) value = nest_of (map (packed element depth) (members value))

-- the view of a node: its series with each leaf packed
abbrev pub view_of : NodeSeries → List nests.Tree
view_of node = map (packed node.element node.dims) node.series

-- the node of a physical stream, with its series
abbrev pub node_of : List NodeSeries → Option Phys → Option NodeSeries
node_of nodes None = None
node_of nodes (Some phys) = slice_get nodes phys.node

-- the node of the physical stream of this number, with its series
abbrev pub series_of_stream : PlainSplit → List (List Tree) → ℕ → Option NodeSeries
series_of_stream split roots stream = node_of (series_of_nodes split.nodes roots) (slice_get split.streams stream)

-- the view of the physical stream of this number: that of its node
abbrev pub view_of_stream : PlainSplit → List (List Tree) → ℕ → Option (List nests.Tree)
view_of_stream split roots stream = option_map view_of (series_of_stream split roots stream)

-- ---- items that carry a value

-- a relation holds of each two that stand at one place of two lists, which are equally long
abbrev pub EachPair : {A B : Type 0} → (A → B → Type 0) → List A → List B → Type 0
EachPair R [] [] = Unit {0}
EachPair R (one ∷ more) (other ∷ others) = R one other × EachPair R more others
EachPair R one other = ⊥

-- a nest of words has the lists of a nest of values, and each word agrees with the value at its place
abbrev pub AgreesAt : Ltype → ℕ → nests.Tree → Tree → Type 0
AgreesAt element zero (leaf bits) value = (length bits ≡ width_of element) × Agrees element bits value
AgreesAt element zero (nests.list parts) value = ⊥
AgreesAt element (suc depth) (leaf bits) value = ⊥
AgreesAt element (suc depth) (nests.list parts) value = EachPair (AgreesAt element depth) (list_of parts) (members value)

-- the items are the flat form of a node's series with each leaf replaced by a word that agrees with it
pub record Spells (node : NodeSeries) (items : List Item) : Type 0 where
  pub words : List nests.Tree
  pub agree : EachPair (AgreesAt node.element node.dims) words node.series
  pub flat_is : items ≡ flat_all node.dims (trees_of words)

-- the items spell the series of the node of a physical stream
pub record SpellsNode (nodes : List NodeSeries) (phys : Phys) (items : List Item) : Type 0 where
  pub node : NodeSeries
  pub found : slice_get nodes phys.node ≡ Some node
  pub spelled : Spells node items

-- the items done on the physical streams of a port, one list for each, carry the value with these roots
pub record Carries (split : PlainSplit) (roots : List (List Tree)) (done : List (List Item)) : Type 0 where
  pub fits : fits_split split roots ≡ true
  pub spelled : EachPair (SpellsNode (series_of_nodes split.nodes roots)) split.streams done
