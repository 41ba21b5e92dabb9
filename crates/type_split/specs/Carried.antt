-- Which nodes are carried (this project's own): a node without a physical stream is carried by a Stream inside it whose sequences
-- are those of the node.
use Rattle.std.specs.Prelude.{ℕ, Bool, true, false, not, ◌||◌, ◌&&◌, List, [], ◌∷◌, map, filter, Option, is_some, slice_get}
use Rattle.logical_types.specs.Tree.{Ltype, null, bits, group, union, stream, Parts, no_parts, part}
use Rattle.logical_types.specs.declared.ltype.Sync.{Sync}
use Rattle.logical_types.specs.declared.ltype.Sync.TheVariants as syncs
use Rattle.type_split.specs.Nodes.{StreamNode, is_physical}
use Rattle.type_split.specs.Streams.{PlainSplit}

-- the sequences of a Stream are those around it, with its own
abbrev pub is_tied : Sync → Bool
is_tied syncs.Sync = true
is_tied syncs.Flatten = false
is_tied syncs.Desync = false
is_tied syncs.FlatDesync = false

-- some Stream of these, in no other Stream of these, is Sync and carried. A Stream is carried where it has a physical stream, or such
-- a Stream stands in its data type.
abbrev mutual
  pub has_carried : Ltype → Bool
  has_carried null = false
  has_carried (bits width) = false
  has_carried (group parts) = have_carried parts
  has_carried (union parts) = have_carried parts
  has_carried (stream element user settings) = is_tied settings.sync && (is_physical element user settings || has_carried element)

  pub have_carried : Parts → Bool
  have_carried no_parts = false
  have_carried (part name ltype more) = has_carried ltype || have_carried more

-- a node is carried where it has a physical stream, or such a Stream stands in the type of its elements
abbrev pub is_carried : StreamNode → Bool
is_carried node = is_some node.phys || has_carried node.element

-- the paths of the nodes that are not carried, in their order
abbrev pub uncarried_paths : List StreamNode → List (List (List ℕ))
uncarried_paths nodes = map (λ (node : StreamNode). node.path) (filter (λ (node : StreamNode). not (is_carried node)) nodes)

-- the path of the first node of a split that is not carried
abbrev pub uncarried_of : PlainSplit → Option (List (List ℕ))
uncarried_of split = slice_get (uncarried_paths split.nodes) 0
