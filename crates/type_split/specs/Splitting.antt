-- How far a type is split. It serves the search for nodes, and no public clause. This project's own.
use Rattle.std.specs.Prelude.{◌≡◌, ℕ, ◌+◌, ◌≤◌, Bool, false, ◌&&◌, ◌||◌, if◌then◌else◌, List, [], ◌∷◌, ◌++◌, map, length, Option, Some, None, Result, OnOk}
use Rattle.std.specs.Option.{option_or}
use Rattle.logical_types.specs.Tree.{Ltype, null, bits, group, union, stream, Parts, no_parts, part, plain, settings_of}
use Rattle.logical_types.specs.Faults.{faults_within, faults_of_parts}
use Rattle.logical_types.specs.declared.fault.TypeFault.{TypeFault}
use Rattle.logical_types.specs.declared.ltype.StreamType.{StreamType}
use Rattle.type_split.specs.Nodes.{StreamNode, node_at, nodes_in, nodes_in_parts, number_of_streams, streams_in_parts, number_of_physical, physical_in_parts, is_physical}
use Rattle.type_split.specs.Streams.{node_view}
use Rattle.type_split.specs.declared.place.Place.{Place}
use Rattle.type_split.specs.declared.splitting.Splitting.{Splitting}

-- the path of the first physical stream of a type that stands inside a physical stream of the same path. These names lead to the type,
-- and a physical stream around it has them as its path where they are taken. By it a clash is found without a comparison: in a valid
-- type two Streams have one path only where one of them stands inside the other.
abbrev mutual
  pub clash_within : List (List ℕ) → (taken : Bool) → Ltype → Option (List (List ℕ))
  clash_within names taken null = None
  clash_within names taken (bits width) = None
  clash_within names taken (group parts) = clash_in_parts names parts
  clash_within names taken (union parts) = clash_in_parts names parts
  clash_within names taken (stream element user settings) =
      if is_physical element user settings && taken then Some names else clash_within names (is_physical element user settings || taken) element

  pub clash_in_parts : List (List ℕ) → Parts → Option (List (List ℕ))
  clash_in_parts names no_parts = None
  clash_in_parts names (part name ltype more) = option_or (clash_within (names ++ name ∷ []) false ltype) (clash_in_parts names more)

-- these nodes were added, and so many of them have a physical stream; a clash among them is kept where there was none before. The names
-- are as before, and are taken where this says so.
pub record AreAdded (old new : Splitting) (added : List StreamNode) (count : ℕ) (clash : Option (List (List ℕ))) (taken : Bool) : Type 0 where
  pub names : new.names ≡ old.names
  pub nodes : map node_view new.nodes ≡ map node_view old.nodes ++ added
  pub physical : new.physical ≡ count + old.physical
  pub clash_is : new.clash ≡ option_or old.clash clash
  pub taken_is : new.is_taken ≡ taken

-- a type without these faults can be split at a place, where it adds so many nodes: types have at most 65,536, each with one physical
-- stream at most
pub record CanSplit (old : Splitting) (place : Place) (found : List TypeFault) (more : ℕ) : Type 0 where
  pub valid : found ≡ []
  pub flows : 1 ≤ place.around.product.num
  pub nodes : more + length old.nodes ≤ 65536
  pub streams : old.physical ≤ length old.nodes

-- the nodes of a type were added
abbrev pub Splits : {E : Type 0} → (old new : Splitting) → Result (Unit {0}) E → Place → Ltype → Type 0
Splits old new result place ltype = CanSplit old place (faults_within place.around ltype) (number_of_streams ltype)
    → OnOk result (AreAdded old new (nodes_in old.names place (length old.nodes) old.physical ltype) (number_of_physical ltype)
    (clash_within old.names old.is_taken ltype) old.is_taken)

-- the nodes of a part of this name were added
abbrev pub SplitsPart : {E : Type 0} → (old new : Splitting) → Result (Unit {0}) E → Place → List ℕ → Ltype → Type 0
SplitsPart old new result place name ltype = CanSplit old place (faults_within place.around ltype) (number_of_streams ltype)
    → OnOk result (AreAdded old new (nodes_in (old.names ++ name ∷ []) place (length old.nodes) old.physical ltype) (number_of_physical ltype)
    (clash_within (old.names ++ name ∷ []) false ltype) old.is_taken)

-- the nodes of parts were added
abbrev pub SplitsParts : {E : Type 0} → (old new : Splitting) → Result (Unit {0}) E → Place → Parts → Type 0
SplitsParts old new result place parts = CanSplit old place (faults_of_parts place.around parts) (streams_in_parts parts)
    → OnOk result (AreAdded old new (nodes_in_parts old.names place (length old.nodes) old.physical parts) (physical_in_parts parts)
    (clash_in_parts old.names parts) old.is_taken)

-- the node of a Stream was added
abbrev pub AddsNode : {E : Type 0} → (old new : Splitting) → Result (Unit {0}) E → Place → StreamType → Type 0
AddsNode old new result place one = old.physical ≤ 65535
    → OnOk result (AreAdded old new (node_at old.names place (length old.nodes) old.physical (plain one.element) (plain one.user) (settings_of one) ∷ [])
    (if is_physical (plain one.element) (plain one.user) (settings_of one) then 1 else 0)
    (if is_physical (plain one.element) (plain one.user) (settings_of one) && old.is_taken then Some old.names else None)
    (is_physical (plain one.element) (plain one.user) (settings_of one) || old.is_taken))
