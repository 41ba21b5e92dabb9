-- How the nodes of a port's type stand in their list (this project's own): by recursion on the type, each with a number.
use Rattle.std.specs.Prelude.{◌≡◌, ℕ, zero, suc, ◌+◌, Bool, true, if◌then◌else◌, List, [], ◌∷◌, ◌++◌, drop, Option, Some, None, slice_get}
use Rattle.logical_types.specs.Faults.{effective_dims}
use Rattle.logical_types.specs.Synchronicity.{is_apart}
use Rattle.logical_types.specs.Tree.{Ltype, null, bits, group, union, stream, Parts, no_parts, part, Settings}
use Rattle.logical_types.specs.Width.{width_of}
use Rattle.logical_types.specs.declared.ltype.Sync.{Sync}
use Rattle.logical_types.specs.declared.ltype.Sync.TheVariants as syncs
use Rattle.type_split.specs.Carried.{is_carried, has_carried, uncarried_of}
use Rattle.type_split.specs.Nodes.{StreamNode, nodes_in, nodes_of, number_of_streams}
use Rattle.type_split.specs.Streams.{gathered, roots_of, split_of}
use Rattle.type_split.specs.declared.place.Place.{Place}

-- from this number on the nodes are these, and others behind them
pub record AreFrom (nodes : List StreamNode) (number : ℕ) (some : List StreamNode) : Type 0 where
  pub rest : List StreamNode
  pub are : drop number nodes ≡ some ++ rest

-- the nodes inside the node of this number stand right behind it, as the recursion on the type of its elements has them
pub record StandsAt (nodes : List StreamNode) (number : ℕ) (node : StreamNode) : Type 0 where
  pub place : Place
  -- how many physical streams stand before those inside
  pub physical : ℕ
  pub parent : place.parent ≡ Some number
  pub dims : place.around.dims ≡ node.params.dims
  pub reversed : place.reversed ≡ node.reversed
  pub root : place.root ≡ node.root
  pub inner : AreFrom nodes (suc number) (nodes_in node.path place (suc number) physical node.element)

-- the dimensionality around a node with this parent: that of the parent, and none around the outermost
abbrev pub IsAround : List StreamNode → Option ℕ → ℕ → Type 0
IsAround nodes None dims = dims ≡ 0
IsAround nodes (Some number) dims = (parent : StreamNode) × (slice_get nodes number ≡ Some parent) × (parent.params.dims ≡ dims)

-- the effective dimensionality of a node is its own, with that around it where the node is Sync or Desync
pub record HasDims (nodes : List StreamNode) (node : StreamNode) : Type 0 where
  pub around : ℕ
  pub is_around : IsAround nodes node.parent around
  pub dims : node.params.dims ≡ effective_dims node.own_dims node.sync around

-- the relation holds for each node of a port's type, by its number
abbrev pub HoldOfNodes : (List StreamNode → ℕ → StreamNode → Type 0) → Type 0
HoldOfNodes Holds = (ltype : Ltype) (number : ℕ) (node : StreamNode) → slice_get (nodes_of ltype) number ≡ Some node → Holds (nodes_of ltype) number node

abbrev pub NodesStand : Type 0
NodesStand = HoldOfNodes StandsAt

abbrev pub NodesHaveDims : Type 0
NodesHaveDims = HoldOfNodes (λ nodes number node. HasDims nodes node)

-- ---- roots

-- the numbers of the Streams of a type whose sequences are not tied to those around them, in preorder; the first Stream has this number
abbrev mutual
  pub roots_in : ℕ → Ltype → List ℕ
  roots_in number null = []
  roots_in number (bits width) = []
  roots_in number (group parts) = roots_in_parts number parts
  roots_in number (union parts) = roots_in_parts number parts
  roots_in number (stream element user settings) = (if is_apart settings.sync then number ∷ [] else []) ++ roots_in (suc number) element

  pub roots_in_parts : ℕ → Parts → List ℕ
  roots_in_parts number no_parts = []
  roots_in_parts number (part name ltype more) = roots_in number ltype ++ roots_in_parts (number_of_streams ltype + number) more

-- the roots of a port's type are its outermost Stream, and then those in the type of its elements
abbrev pub RootsInOrder : Type 0
RootsInOrder = (element user : Ltype) (settings : Settings) → roots_of (stream element user settings) ≡ 0 ∷ roots_in 1 element

-- ---- ends

-- the first number past a node and the nodes inside it
abbrev pub end_at : ℕ → StreamNode → List ℕ
end_at number node = (suc number + number_of_streams node.element) ∷ []

-- the ends of these nodes
abbrev pub ends_of : List StreamNode → List ℕ
ends_of nodes = gathered end_at 0 nodes

-- ---- nodes without a physical stream

-- a Stream carries the sequences of the node of this number: it is carried, it is Sync, and the node is right around it
pub record IsToldBy (nodes : List StreamNode) (number at : ℕ) (child : StreamNode) : Type 0 where
  pub found : slice_get nodes at ≡ Some child
  pub parent : child.parent ≡ Some number
  pub sync : child.sync ≡ syncs.Sync
  pub carried : is_carried child ≡ true

-- a node without a physical stream has elements without bits, and some Stream carries its sequences
pub record IsTold (nodes : List StreamNode) (number : ℕ) (node : StreamNode) : Type 0 where
  pub narrow : width_of node.element ≡ 0
  pub has : has_carried node.element ≡ true
  pub at : ℕ
  pub child : StreamNode
  pub told : IsToldBy nodes number at child

-- where all nodes of a port's type are carried, each without a physical stream has a Stream that carries its sequences
abbrev pub AreToldWhereCarried : Type 0
AreToldWhereCarried = (ltype : Ltype) → uncarried_of (split_of ltype) ≡ None → (number : ℕ) (node : StreamNode) → slice_get (nodes_of ltype) number ≡ Some node
    → node.phys ≡ None → IsTold (nodes_of ltype) number node
