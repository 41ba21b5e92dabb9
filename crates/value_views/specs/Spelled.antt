-- The items of a view, by the series that it stands for. It serves the code, and no public clause. This project's own.
use Rattle.std.specs.Prelude.{ℕ, List, map}
use Rattle.physical_stream.specs.declared.item.Item.{Item}
use Rattle.logical_types.specs.Tree.{Ltype}
use Rattle.nest_shape.specs.Flat.{flat_all}
use Rattle.nest_shape.specs.Tree.{trees_of}
use Rattle.logical_value.specs.Tree.{Tree}
use Rattle.value_views.specs.Series.{NodeSeries}
use Rattle.value_views.specs.Views.{packed}

-- the items of values of this depth with each leaf replaced by its word
abbrev pub spelled : Ltype → ℕ → List Tree → List Item
spelled element depth values = flat_all depth (trees_of (map (packed element depth) values))

-- the items of the view of a node
abbrev pub flat_of : NodeSeries → List Item
flat_of node = spelled node.element node.dims node.series
