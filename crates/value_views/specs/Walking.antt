-- The walk that compares nodes with those around them. It serves the code, and no public clause. This project's own.
use Rattle.std.specs.Prelude.{◌≡◌, ◌<◌, ◌≤◌, ℕ, if◌then◌else◌, List, [], length, Some, Result, MatchResult, slice_get}
use Rattle.logical_types.specs.Synchronicity.{is_apart}
use Rattle.logical_types.specs.Tree.{Ltype, Parts}
use Rattle.logical_types.specs.declared.ltype.Sync.{Sync}
use Rattle.type_split.specs.Nodes.{StreamNode, nodes_in, nodes_in_parts, outermost_place}
use Rattle.type_split.specs.Standing.{AreFrom}
use Rattle.type_split.specs.Streams.{PlainSplit}
use Rattle.logical_value.specs.Tree.{Tree}
use Rattle.value_views.specs.Along.{along}
use Rattle.value_views.specs.Comparing.{Disagreement, disagreements_in, disagreements_in_parts, disagrees_at, packet_of}
use Rattle.value_views.specs.Series.{replaced, series_at}
use Rattle.value_views.specs.Shown.{AreNests}
use Rattle.value_views.specs.declared.fault.JoinFault.{JoinFault}
use Rattle.value_views.specs.declared.fault.JoinFault.TheVariants as faults

-- the type of places, which `type_split` keeps to itself
abbrev type_of : {A : Type 0} → A → Type 0
type_of {A = A} one = A

abbrev Place : Type 0
Place = type_of outermost_place

-- the Streams of a type stand among the nodes from this number on, inside a node of so many dimensions
pub record IsPlaced (split : PlainSplit) (number dims : ℕ) (ltype : Ltype) : Type 0 where
  pub names : List (List ℕ)
  pub place : Place
  pub physical : ℕ
  pub around : place.around.dims ≡ dims
  pub from : AreFrom split.nodes number (nodes_in names place number physical ltype)

pub record ArePlaced (split : PlainSplit) (number dims : ℕ) (parts : Parts) : Type 0 where
  pub names : List (List ℕ)
  pub place : Place
  pub physical : ℕ
  pub around : place.around.dims ≡ dims
  pub from : AreFrom split.nodes number (nodes_in_parts names place number physical parts)

-- a type may be compared: its Streams are placed, inside the node of a number, and each node has a series
pub record CanCompare (split : PlainSplit) (given : List (List Tree)) (around count : ℕ) (Placed : Type 0) : Type 0 where
  pub long : length given ≡ length split.nodes
  pub few : count ≤ 65536
  pub within : around < length split.nodes
  pub nested : (number : ℕ) (node : StreamNode) → slice_get split.nodes number ≡ Some node → AreNests node.params.dims (series_at number given)
  pub placed : Placed

-- the error is the first of these disagreements; want of memory says nothing
abbrev pub IsFirst : List Disagreement → JoinFault → Type 0
IsFirst found (faults.Disagree path packet) = slice_get found 0 ≡ Some (record { path = path; packet = packet })
IsFirst found faults.Memory = Unit {0}

-- the result of a comparison: there is no disagreement, and the way is as before, or the first
abbrev pub Finds : List Disagreement → (old new : List ℕ) → Result (Unit {0}) JoinFault → Type 0
Finds found old new result = MatchResult result (λ _. (new ≡ old) × (found ≡ [])) (IsFirst found)

-- the nodes of a type were compared, where the way leads to it from the leaves of the series around
abbrev pub Compares : PlainSplit → List (List Tree) → (old new : List ℕ) → (around number dims : ℕ) → Ltype → Result (Unit {0}) JoinFault → Type 0
Compares split given old new around number dims ltype result = (placed : IsPlaced split number dims ltype)
    → Finds (disagreements_in (λ n. series_at n given) placed.names number dims ltype (replaced (along old) dims (series_at around given))) old new result

abbrev pub ComparesParts : PlainSplit → List (List Tree) → (old new : List ℕ) → (around number dims : ℕ) → Parts → Result (Unit {0}) JoinFault → Type 0
ComparesParts split given old new around number dims parts result = (placed : ArePlaced split number dims parts)
    → Finds (disagreements_in_parts (λ n. series_at n given) placed.names number dims parts (replaced (along old) dims (series_at around given))) old new result

-- whether a Stream disagrees with the series around it
abbrev pub Checks : PlainSplit → List (List Tree) → List ℕ → (around number dims : ℕ) → Sync → Result (Unit {0}) JoinFault → Type 0
Checks split given way around number dims sync result = (path : List (List ℕ)) → ((node : StreamNode) → slice_get split.nodes number ≡ Some node → node.path ≡ path)
    → MatchResult result
    (λ _. (if is_apart sync then [] else disagrees_at path (packet_of sync dims (replaced (along way) dims (series_at around given)) (series_at number given))) ≡ [])
    (IsFirst (if is_apart sync then [] else disagrees_at path (packet_of sync dims (replaced (along way) dims (series_at around given)) (series_at number given))))
