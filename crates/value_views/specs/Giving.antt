-- The Stream that gives a node without a physical stream its lists. It serves the code, and no public clause. This project's own.
use Rattle.std.specs.Prelude.{◌≡◌, ℕ, ◌+◌, ◌≤◌, ◌<◌, if◌then◌else◌, List, length, map, drop, Option, Some, None, slice_get}
use Rattle.logical_types.specs.Faults.{IsPlain}
use Rattle.logical_types.specs.Size.{number_of_nodes}
use Rattle.logical_types.specs.Tree.{Ltype, Parts}
use Rattle.logical_types.specs.Tree as types
use Rattle.type_split.specs.Carried.{is_tied, uncarried_of}
use Rattle.type_split.specs.Streams.{IsPortSplit, PlainSplit}
use Rattle.nest_shape.specs.Tree as nests
use Rattle.logical_value.specs.Tree.{Tree, plain}
use Rattle.logical_value.specs.declared.value.Value.{Value}
use Rattle.value_views.specs.Joining.{AreViews}
use Rattle.value_views.specs.Series.{series_at}
use Rattle.value_views.specs.Words.{first_view, given_at}
use Rattle.type_split.specs.Nodes.{StreamNode, number_of_streams}
use Rattle.logical_value.specs.Agreement.{first_of}

-- the number of the first Sync Stream of a type, in no other Stream of it, where the first Stream of the type has this number
abbrev mutual
  pub first_sync : ℕ → Ltype → Option ℕ
  first_sync number types.null = None
  first_sync number (types.bits width) = None
  first_sync number (types.group parts) = first_sync_in number parts
  first_sync number (types.union parts) = first_sync_in number parts
  first_sync number (types.stream element user settings) = if is_tied settings.sync then Some number else None

  -- the same of parts
  pub first_sync_in : ℕ → Parts → Option ℕ
  first_sync_in number types.no_parts = None
  first_sync_in number (types.part name ltype more) = first_of (first_sync number ltype) (first_sync_in (number_of_streams ltype + number) more)

-- words of elements of a type may be unpacked where they stand for values
pub record CanUnpack (element : Ltype) (Words : Type 0) : Type 0 where
  pub plain : IsPlain element
  pub few : number_of_nodes element ≤ 65536
  pub words : Words

-- views of a port whose nodes are all carried
pub record CanJoin (split : PlainSplit) (views : List (List nests.Tree)) : Type 0 where
  pub port : IsPortSplit split
  pub carried : uncarried_of split ≡ None
  pub are : AreViews split views

-- the nodes from this number on have the series that the views give
pub record AreGiven (split : PlainSplit) (views : List (List nests.Tree)) (from : ℕ) (series : List (List Tree)) : Type 0 where
  pub long : length series ≡ length split.nodes
  pub each : (k : ℕ) → from ≤ k → k < length split.nodes → series_at k series ≡ given_at split views k

-- the views give the nodes from this number on these series
pub record GiveFrom (split : PlainSplit) (views : List (List nests.Tree)) (from : ℕ) (series : List (List Tree)) : Type 0 where
  pub can : CanJoin split views
  pub given : AreGiven split views from series

-- of the views, those of the nodes before this number are left in their places
pub record AreLeft (split : PlainSplit) (views : List (List nests.Tree)) (number : ℕ) (left : List (List nests.Tree)) : Type 0 where
  pub each : (k phys : ℕ) (node : StreamNode) → k < number → slice_get split.nodes k ≡ Some node → node.phys ≡ Some phys → first_view (drop phys left) ≡ first_view (drop phys views)

-- the plain data of series
abbrev pub plain_series : List (List Value) → List (List Tree)
plain_series series = map (λ (one : List Value). map plain one) series

-- the node of this number has no physical stream
pub record IsUnseenNode (split : PlainSplit) (number : ℕ) : Type 0 where
  pub node : StreamNode
  pub found : slice_get split.nodes number ≡ Some node
  pub unseen : node.phys ≡ None
