-- Where views disagree: the comparisons of nodes with the nodes around them (this project's own, after the nested streams of the Tydi specification).
use Rattle.std.specs.Prelude.{ℕ, zero, suc, ◌+◌, Bool, true, false, ◌&&◌, if◌then◌else◌, List, [], ◌∷◌, ◌++◌, Option, Some, None, slice_get}
use Rattle.logical_types.specs.Faults.{dims_taken_over}
use Rattle.logical_types.specs.Synchronicity.{is_apart}
use Rattle.logical_types.specs.Tree.{Ltype, Parts}
use Rattle.logical_types.specs.Tree as types
use Rattle.logical_types.specs.declared.ltype.Sync.{Sync}
use Rattle.logical_types.specs.declared.ltype.Sync.TheVariants as syncs
use Rattle.type_split.specs.Nodes.{StreamNode, number_of_streams}
use Rattle.type_split.specs.Streams.{PlainSplit}
use Rattle.nest_shape.specs.Tree as nests
use Rattle.logical_value.specs.Tree.{Tree, members}
use Rattle.value_views.specs.Series.{dims_inside, first_part, leaves, other_parts, replaced}
use Rattle.value_views.specs.Words.{given_at}

-- ---- two series

-- a test passes for each two that stand at one place of two lists, which are equally long
abbrev pub pass_both : (Tree → Tree → Bool) → List Tree → List Tree → Bool
pass_both test [] [] = true
pass_both test [] (other ∷ others) = false
pass_both test (one ∷ more) [] = false
pass_both test (one ∷ more) (other ∷ others) = test one other && pass_both test more others

-- two nests have the same lists above this depth; leaves are not compared
abbrev pub same_shape : ℕ → Tree → Tree → Bool
same_shape zero one other = true
same_shape (suc depth) one other = pass_both (same_shape depth) (members one) (members other)

-- the number of the first member that differs from that at its place, or the lesser of the numbers of members where none does and these differ. The first
-- member has this number.
abbrev pub first_difference : (Tree → Tree → Bool) → ℕ → List Tree → List Tree → Option ℕ
first_difference test number [] [] = None
first_difference test number [] (other ∷ others) = Some number
first_difference test number (one ∷ more) [] = Some number
first_difference test number (one ∷ more) (other ∷ others) = if test one other then first_difference test (suc number) more others else Some number

-- ---- a node and the node around it

-- the nests of a Stream whose sequences are tied to those around it. The given series, of so many dimensions, has in each leaf the nest at the Stream's place.
-- A Flatten Stream has these nests one after another, and any other has the lists around them too.
abbrev pub tied_series : Sync → ℕ → List Tree → List Tree
tied_series syncs.Sync dims series = series
tied_series syncs.Flatten dims series = leaves dims series
tied_series syncs.Desync dims series = series
tied_series syncs.FlatDesync dims series = leaves dims series

-- the first packet at which a Stream's series disagrees with the series around it. A Flatten Stream has as many members as there are leaves that select it. A
-- Sync Stream has the lists around these leaves, above its own dimensions.
abbrev pub packet_of : Sync → ℕ → List Tree → List Tree → Option ℕ
packet_of sync dims around series = first_difference (same_shape (dims_taken_over sync dims)) 0 (tied_series sync dims around) series

-- a Stream that disagrees with the node around it: its path, and the first packet at which it does
pub record Disagreement : Type 0 where
  pub path : List (List ℕ)
  pub packet : ℕ

abbrev pub disagrees_at : List (List ℕ) → Option ℕ → List Disagreement
disagrees_at path None = []
disagrees_at path (Some packet) = record { path = path; packet = packet } ∷ []

-- ---- all nodes

-- the Streams of a type that disagree with those around them, in preorder; a root agrees with any. Each node has the series of its number, and the
-- first Stream of the type has this number and path. The series around the type has so many dimensions, and in its leaves what stands for the type: for a part each
-- leaf is replaced by its part, and left out where a Union selects another variant.
abbrev mutual
  pub disagreements_in : (ℕ → List Tree) → List (List ℕ) → ℕ → ℕ → Ltype → List Tree → List Disagreement
  disagreements_in series_of names number dims types.null around = []
  disagreements_in series_of names number dims (types.bits width) around = []
  disagreements_in series_of names number dims (types.group parts) around = disagreements_in_parts series_of names number dims parts around
  disagreements_in series_of names number dims (types.union parts) around = disagreements_in_parts series_of names number dims parts around
  disagreements_in series_of names number dims (types.stream element user settings) around =
      (if is_apart settings.sync then [] else disagrees_at names (packet_of settings.sync dims around (series_of number)))
      ++ disagreements_in series_of names (suc number) (dims_inside settings.sync dims settings.dims) element (series_of number)

  pub disagreements_in_parts : (ℕ → List Tree) → List (List ℕ) → ℕ → ℕ → Parts → List Tree → List Disagreement
  disagreements_in_parts series_of names number dims types.no_parts around = []
  disagreements_in_parts series_of names number dims (types.part name ltype more) around =
      disagreements_in series_of (names ++ name ∷ []) number dims ltype (replaced first_part dims around)
      ++ disagreements_in_parts series_of names (number_of_streams ltype + number) dims more (replaced other_parts dims around)

-- the nodes of a port that disagree with those around them, in preorder, where each node has the series of its number
abbrev pub disagreements_of_nodes : (ℕ → List Tree) → List StreamNode → List Disagreement
disagreements_of_nodes series_of [] = []
disagreements_of_nodes series_of (outermost ∷ others) = disagreements_in series_of [] 1 outermost.params.dims outermost.element (series_of 0)

-- the nodes of a port that disagree with those around them, in preorder, by the views of its physical streams
abbrev pub disagreements_of : PlainSplit → List (List nests.Tree) → List Disagreement
disagreements_of split views = disagreements_of_nodes (given_at split views) split.nodes

-- the first of them: the place at which views are not those of one value
abbrev pub disagreement_of : PlainSplit → List (List nests.Tree) → Option Disagreement
disagreement_of split views = slice_get (disagreements_of split views) 0
