-- The physical streams of a port's type, and its roots (Tydi specification, physical streams; that two streams of one path clash is
-- this project's own).
use Rattle.std.specs.Prelude.{◌≡◌, ◌≤◌, ℕ, suc, Bool, ◌==◌, if◌then◌else◌, List, [], ◌∷◌, ◌++◌, map, Option, Some, None}
use Rattle.std.specs.Cmp.Lexicographic.{pointwise}
use Rattle.std.specs.List.{list_any}
use Rattle.std.specs.Str.{bytes_eq}
use Rattle.logical_types.specs.Faults.{IsValid}
use Rattle.logical_types.specs.Size.{number_of_nodes}
use Rattle.logical_types.specs.Tree.{Ltype, Settings, plain, stream}
use Rattle.type_split.specs.Nodes.{StreamNode, nodes_of}
use Rattle.type_split.specs.declared.split.Node.{Node}
use Rattle.type_split.specs.declared.split.Phys.{Phys}
use Rattle.type_split.specs.declared.split.Split.{Split}
use Rattle.type_split.specs.declared.fault.SplitFault.{SplitFault}
use Rattle.type_split.specs.declared.fault.SplitFault.TheVariants as faults

-- the list that each node gives with its number, one after another; the first node has this number
abbrev pub gathered : {A : Type 0} → (ℕ → StreamNode → List A) → ℕ → List StreamNode → List A
gathered at number [] = []
gathered at number (node ∷ more) = at number node ++ gathered at (suc number) more

-- the physical stream of a node of this number
abbrev pub phys_of : ℕ → StreamNode → Phys
phys_of number node = record { path = node.path; params = node.params; reversed = node.reversed; root = node.root; node = number }

-- the physical stream of a node of this number, where it has one
abbrev pub stream_in : ℕ → StreamNode → Option ℕ → List Phys
stream_in number node None = []
stream_in number node (Some phys) = phys_of number node ∷ []

abbrev pub stream_at : ℕ → StreamNode → List Phys
stream_at number node = stream_in number node node.phys

-- the physical streams of a port's type
abbrev pub streams_of : Ltype → List Phys
streams_of ltype = gathered stream_at 0 (nodes_of ltype)

-- the number of a node, where it is a root
abbrev pub root_at : ℕ → StreamNode → List ℕ
root_at number node = if node.root == number then number ∷ [] else []

-- the roots of a port's type
abbrev pub roots_of : Ltype → List ℕ
roots_of ltype = gathered root_at 0 (nodes_of ltype)

-- ---- clashes

-- two paths are the same names
abbrev pub is_same_path : List (List ℕ) → List (List ℕ) → Bool
is_same_path one other = pointwise bytes_eq one other

-- the path of the first of these streams that one of these paths before it, or an earlier stream, has too
abbrev pub clash_from : List (List (List ℕ)) → List Phys → Option (List (List ℕ))
clash_from before [] = None
clash_from before (one ∷ more) = if list_any (is_same_path one.path) before then Some one.path else clash_from (one.path ∷ before) more

-- the path of the second of the first two physical streams that have one path
abbrev pub clash_of : Ltype → Option (List (List ℕ))
clash_of ltype = clash_from [] (streams_of ltype)

-- the path is that on which streams clash; want of memory says nothing
abbrev pub Blames : Option (List (List ℕ)) → SplitFault → Type 0
Blames clash (faults.NameClash path) = clash ≡ Some path
Blames clash faults.Memory = Unit {0}

-- ---- the plain data of a split

abbrev pub node_view : Node → StreamNode
node_view node = record {
  path = node.path;
  parent = node.parent;
  own_dims = node.own_dims;
  params = node.params;
  sync = node.sync;
  reversed = node.reversed;
  root = node.root;
  phys = node.phys;
  element = plain node.element.now;
}

-- a split as plain data
pub record PlainSplit : Type 0 where
  pub nodes : List StreamNode
  pub streams : List Phys
  pub roots : List ℕ

abbrev pub plain_split : Split → PlainSplit
plain_split split = record { nodes = map node_view split.nodes; streams = split.streams; roots = split.roots }

-- the split of a port's type
abbrev pub split_of : Ltype → PlainSplit
split_of ltype = record { nodes = nodes_of ltype; streams = streams_of ltype; roots = roots_of ltype }

-- a type that is a Stream
pub record IsStream (ltype : Ltype) : Type 0 where
  pub element : Ltype
  pub user : Ltype
  pub settings : Settings
  pub is : ltype ≡ stream element user settings

-- a split as `split_type` gives it: that of a Stream that is a valid type of at most 65,536 nodes, of which no two physical
-- streams clash
pub record IsPortSplit (split : PlainSplit) : Type 0 where
  pub ltype : Ltype
  pub port : IsStream ltype
  pub valid : IsValid ltype
  pub few : number_of_nodes ltype ≤ 65536
  pub apart : clash_of ltype ≡ None
  pub is : split ≡ split_of ltype
