-- The filling of the series of nodes, from the last node on. It serves the code, and no public clause. This project's own.
use Rattle.std.specs.Prelude.{◌≡◌, ◌≤◌, ◌<◌, ℕ, suc, ◌+◌, ◌-◌, Bool, false, not, ◌||◌, if◌then◌else◌, List, [], ◌∷◌, length, map, drop, reverse, Some, is_some, slice_get}
use Rattle.logical_types.specs.Synchronicity.{is_apart}
use Rattle.type_split.specs.Nodes.{StreamNode}
use Rattle.type_split.specs.Streams.{IsPortSplit, PlainSplit}
use Rattle.logical_value.specs.Element.{set_apart}
use Rattle.logical_value.specs.Tree.{Tree}
use Rattle.value_views.specs.Series.{NodeSeries, leaves, series_at, series_in}
use Rattle.value_views.specs.Shown.{AreNests, Elements, Shows}
use Rattle.value_views.specs.Words.{in_nest}

-- a node is a root: no node is around it, or its sequences are not tied to those around it
abbrev pub is_root : StreamNode → Bool
is_root node = not (is_some node.parent) || is_apart node.sync

-- the series of the roots among these nodes
abbrev pub root_series : List StreamNode → List NodeSeries → List (List Tree)
root_series [] series = []
root_series (node ∷ nodes) [] = []
root_series (node ∷ nodes) (one ∷ series) = if is_root node then one.series ∷ root_series nodes series else root_series nodes series

-- a node has such a series in a value: the given one is this with its Streams apart, and those of the nodes inside it stand behind it
pub record HasFilled (given : List (List Tree)) (all : List NodeSeries) (number : ℕ) (node : NodeSeries) : Type 0 where
  pub given_is : series_at number given ≡ map (in_nest (set_apart node.element) node.dims) node.series
  pub elements : Elements node.element (leaves node.dims node.series)
  pub nested : AreNests node.dims node.series
  pub shows : Shows (λ n. series_at n given) (suc number) node.dims node.element node.series
  pub roots : List (List Tree)
  pub behind : (k : ℕ) (one : NodeSeries) → slice_get (series_in node.dims node.series roots node.element) k ≡ Some one → slice_get all (k + suc number) ≡ Some one

-- the series of all nodes of a value
pub record AreFilled (split : PlainSplit) (given : List (List Tree)) (all : List NodeSeries) : Type 0 where
  pub port : IsPortSplit split
  pub long : length all ≡ length split.nodes
  pub long_given : length given ≡ length split.nodes
  pub element : (k : ℕ) (node : StreamNode) (one : NodeSeries) → slice_get split.nodes k ≡ Some node → slice_get all k ≡ Some one → one.element ≡ node.element
  pub dims : (k : ℕ) (node : StreamNode) (one : NodeSeries) → slice_get split.nodes k ≡ Some node → slice_get all k ≡ Some one → one.dims ≡ node.params.dims
  pub each : (k : ℕ) (one : NodeSeries) → slice_get all k ≡ Some one → HasFilled given all k one

-- the nodes from this number on are filled: the queues of those inside nodes before them have their nests, and the roots are kept, the last one first
pub record IsFilling (split : PlainSplit) (all : List NodeSeries) (from : ℕ) (queues : ℕ → List Tree) (roots : List (List Tree)) : Type 0 where
  pub queued : (k : ℕ) (node : StreamNode) (one : NodeSeries) → slice_get split.nodes k ≡ Some node → from ≤ k → ((parent : ℕ) → node.parent ≡ Some parent → parent < from)
      → is_root node ≡ false → slice_get all k ≡ Some one → queues k ≡ leaves (node.params.dims - node.own_dims) one.series
  pub roots_are : root_series (drop from split.nodes) (drop from all) ≡ reverse roots
