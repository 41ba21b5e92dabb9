-- Laws of series and views, for all values (this project's own).
use Rattle.std.specs.Prelude.{◌≡◌, ℕ, ◌<◌, true, List, [], length, map, Option, Some, None, slice_get}
use Rattle.std.specs.List.{All}
use Rattle.physical_stream.specs.Params.{Parameters}
use Rattle.physical_stream.specs.declared.item.Item.{Item}
use Rattle.physical_stream.specs.declared.item.Item.TheVariants as items
use Rattle.type_split.specs.Nodes.{StreamNode}
use Rattle.type_split.specs.Streams.{IsPortSplit, PlainSplit}
use Rattle.type_split.specs.declared.split.Phys.{Phys}
use Rattle.nest_shape.specs.Flat.{HaveDepth, flat_all}
use Rattle.nest_shape.specs.Tree.{leaf, Trees, no_trees, tree, trees_of}
use Rattle.nest_shape.specs.Tree as nests
use Rattle.logical_value.specs.Fits.{fits_series, fits_split}
use Rattle.logical_value.specs.Tree.{Tree}
use Rattle.value_views.specs.Series.{NodeSeries, series_of_nodes}
use Rattle.value_views.specs.Views.{view_of, view_of_stream, node_of, Carries}

-- a node stands with its series, which fits it
pub record HasSeries (nodes : List NodeSeries) (number : ℕ) (node : StreamNode) : Type 0 where
  pub at : NodeSeries
  pub found : slice_get nodes number ≡ Some at
  pub element : at.element ≡ node.element
  pub dims : at.dims ≡ node.params.dims
  pub fits : fits_series (Some node) at.series ≡ true

-- each node of a port has a series, which fits it where the value fits
abbrev pub NodesHaveSeries : Type 0
NodesHaveSeries = (split : PlainSplit) → IsPortSplit split → (roots : List (List Tree)) → fits_split split roots ≡ true → (number : ℕ) (node : StreamNode)
    → slice_get split.nodes number ≡ Some node → HasSeries (series_of_nodes split.nodes roots) number node

-- each leaf is a word of this width
abbrev mutual
  pub HasWidth : ℕ → nests.Tree → Type 0
  HasWidth width (leaf word) = length word ≡ width
  HasWidth width (nests.list parts) = HaveWidth width parts

  -- each leaf of these nests
  pub HaveWidth : ℕ → Trees → Type 0
  HaveWidth width no_trees = Unit {0}
  HaveWidth width (tree first more) = HasWidth width first × HaveWidth width more

-- an item of a stream: an element has its width, and a Close one of its dimensions
abbrev pub FitsStream : Parameters → Item → Type 0
FitsStream params (items.Elem word) = length word ≡ params.element
FitsStream params (items.Close dim) = dim < params.dims

-- a stream of these parameters has a view: nests of its dimensionality with words of its width, whose items are items of the stream
pub record HasView (split : PlainSplit) (roots : List (List Tree)) (stream : ℕ) (params : Parameters) : Type 0 where
  pub view : List nests.Tree
  pub is : view_of_stream split roots stream ≡ Some view
  pub depth : HaveDepth params.dims (trees_of view)
  pub width : HaveWidth params.element (trees_of view)
  pub items : All (FitsStream params) (flat_all params.dims (trees_of view))

-- each physical stream of a port has a view of each value that fits
abbrev pub StreamsHaveViews : Type 0
StreamsHaveViews = (split : PlainSplit) → IsPortSplit split → (roots : List (List Tree)) → fits_split split roots ≡ true → (stream : ℕ) (phys : Phys)
    → slice_get split.streams stream ≡ Some phys → HasView split roots stream phys.params

-- the items of the view of a node
abbrev pub items_of : Option NodeSeries → List Item
items_of None = []
items_of (Some node) = flat_all node.dims (trees_of (view_of node))

-- the items of the views of all physical streams
abbrev pub items_of_views : PlainSplit → List (List Tree) → List (List Item)
items_of_views split roots = map (λ phys. items_of (node_of (series_of_nodes split.nodes roots) (Some phys))) split.streams

-- the items of the views of a value that fits carry it
abbrev pub ViewsCarry : Type 0
ViewsCarry = (split : PlainSplit) → IsPortSplit split → (roots : List (List Tree)) → fits_split split roots ≡ true → Carries split roots (items_of_views split roots)
