-- The types of the elements of nodes (this project's own).
use Rattle.std.specs.Prelude.{◌≤◌, All}
use Rattle.logical_types.specs.Faults.{IsPlain}
use Rattle.logical_types.specs.Size.{number_of_nodes}
use Rattle.logical_types.specs.Tree.{Ltype}
use Rattle.logical_types.specs.Width.{width_of}
use Rattle.type_split.specs.Nodes.{StreamNode}
use Rattle.type_split.specs.Streams.{IsPortSplit, PlainSplit}

-- a type of elements: it has no fault but of throughputs, lanes and dimensions, no more nodes than a port's type, and no more bits than an element
pub record IsElementType (ltype : Ltype) : Type 0 where
  pub plain : IsPlain ltype
  pub few : number_of_nodes ltype ≤ 65536
  pub narrow : width_of ltype ≤ 4096

-- a node's elements are of such a type
abbrev pub HasElements : StreamNode → Type 0
HasElements node = IsElementType node.element

-- each node of a split as `split_type` gives it has such elements
abbrev pub NodesHaveElements : Type 0
NodesHaveElements = (split : PlainSplit) → IsPortSplit split → All HasElements split.nodes
