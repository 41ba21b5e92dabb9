-- The values that are read again as they are printed, and the ports of which they are. This project's own.
use Rattle.std.specs.Prelude.{◌≡◌, ℕ, suc, ◌+◌, ◌≤◌, max, true, false, List, [], ◌∷◌, All}
use Rattle.logical_types.specs.Names.{has_name_twice}
use Rattle.logical_types.specs.Tree.{Ltype, Parts, names_of}
use Rattle.logical_types.specs.Tree as types
use Rattle.logical_value.specs.Tree.{Tree, null, word, group, union, list, apart, Trees, no_trees, tree, trees_of}
use Rattle.tydi_base.specs.Name.{is_name}
use Rattle.type_split.specs.Nodes.{StreamNode}
use Rattle.type_split.specs.Streams.{PlainSplit}
use Rattle.type_split.specs.declared.split.Phys.{Phys}
use Rattle.value_text.specs.Grammar.{most_levels}
use Rattle.value_text.specs.Leaves.{most_leaves}

-- ---- the size of a value

-- a Group without fields is a leaf
abbrev pub empty_leaf : Trees → ℕ
empty_leaf no_trees = 1
empty_leaf (tree value others) = 0

-- the leaves of a value: its words, its Nulls, whatever is apart, and its Groups without fields
abbrev mutual
  pub leaves_in : Tree → ℕ
  leaves_in null = 1
  leaves_in (word bits) = 1
  leaves_in (group values) = empty_leaf values + leaves_in_all values
  leaves_in (union tag value) = leaves_in value
  leaves_in (list values) = leaves_in_all values
  leaves_in apart = 1

  pub leaves_in_all : Trees → ℕ
  leaves_in_all no_trees = 0
  leaves_in_all (tree value others) = leaves_in value + leaves_in_all others

-- how deep the lists, Groups and Unions of a value nest
abbrev mutual
  pub depth_of : Tree → ℕ
  depth_of null = 0
  depth_of (word bits) = 0
  depth_of (group values) = suc (greatest_depth values)
  depth_of (union tag value) = suc (depth_of value)
  depth_of (list values) = suc (greatest_depth values)
  depth_of apart = 0

  pub greatest_depth : Trees → ℕ
  greatest_depth no_trees = 0
  greatest_depth (tree value others) = max (depth_of value) (greatest_depth others)

-- the leaves of a value of a port's type
abbrev pub leaves_of_port : List (List Tree) → ℕ
leaves_of_port [] = 0
leaves_of_port (series ∷ more) = leaves_in_all (trees_of series) + leaves_of_port more

-- the greatest depth of a value of a port's type
abbrev pub depth_of_port : List (List Tree) → ℕ
depth_of_port [] = 0
depth_of_port (series ∷ more) = max (greatest_depth (trees_of series)) (depth_of_port more)

-- a value is within the limits of a text: at most 1,000,000 leaves, nested at most 2,200 deep
pub record IsSmall (value : List (List Tree)) : Type 0 where
  pub few : leaves_of_port value ≤ most_leaves
  pub shallow : depth_of_port value ≤ most_levels

-- ---- names

-- the fields and variants of an element of a type have names
abbrev mutual
  pub HasNames : Ltype → Type 0
  HasNames types.null = Unit {0}
  HasNames (types.bits width) = Unit {0}
  HasNames (types.group parts) = HaveNames parts
  HasNames (types.union parts) = HaveNames parts
  HasNames (types.stream element user settings) = HasNames element

  pub HaveNames : Parts → Type 0
  HaveNames types.no_parts = Unit {0}
  HaveNames (types.part name ltype more) = (is_name name ≡ true) × HasNames ltype × HaveNames more

-- they have names, and the variants of a Union have different names
abbrev mutual
  pub IsNamed : Ltype → Type 0
  IsNamed types.null = Unit {0}
  IsNamed (types.bits width) = Unit {0}
  IsNamed (types.group parts) = AreNamed parts
  IsNamed (types.union parts) = (has_name_twice (names_of parts) ≡ false) × AreNamed parts
  IsNamed (types.stream element user settings) = IsNamed element

  pub AreNamed : Parts → Type 0
  AreNamed types.no_parts = Unit {0}
  AreNamed (types.part name ltype more) = (is_name name ≡ true) × IsNamed ltype × AreNamed more

-- the path of a node is made of names, and its elements have names
pub record IsNamedNode (node : StreamNode) : Type 0 where
  pub path : All (λ name. is_name name ≡ true) node.path
  pub element : IsNamed node.element

-- the paths of nodes and of physical streams are made of names, and the elements of nodes have names
pub record IsNamedSplit (split : PlainSplit) : Type 0 where
  pub nodes : All IsNamedNode split.nodes
  pub streams : All (λ (stream : Phys). All (λ name. is_name name ≡ true) stream.path) split.streams
