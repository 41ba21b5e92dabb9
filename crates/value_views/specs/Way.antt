-- The way from a root to a node, and the view that is gathered along it. It serves the code, and no public clause. This project's own.
use Rattle.std.specs.Prelude.{◌≡◌, ℕ, zero, suc, ◌+◌, ◌≤◌, Bool, true, false, if◌then◌else◌, List, [], ◌∷◌, ◌++◌, map, Option, Some, None, slice_get, Result, OnOk, IfOk}
use Rattle.logical_types.specs.Faults.{IsPlain}
use Rattle.logical_types.specs.Synchronicity.{is_apart}
use Rattle.logical_types.specs.Tree.{Ltype, Parts}
use Rattle.logical_types.specs.Tree as types
use Rattle.logical_types.specs.declared.ltype.Sync.{Sync}
use Rattle.logical_types.specs.declared.ltype.Sync.TheVariants as syncs
use Rattle.tydi_base.specs.Level.{whole_level}
use Rattle.type_split.specs.Nodes.{StreamNode, number_of_streams, streams_in_parts}
use Rattle.type_split.specs.Streams.{PlainSplit}
use Rattle.nest_shape.specs.Tree as nests
use Rattle.nest_shape.specs.declared.nest.Nest.{Nest}
use Rattle.logical_value.specs.Fits.{all_pass, is_nest, fits_element}
use Rattle.logical_value.specs.Tree.{Tree, group, Trees, trees_of}
use Rattle.value_views.specs.Series.{replaced, leaves, first_part, other_parts, deep, dims_inside, number_of_roots, roots_of_parts, NodeSeries, series_at, series_in, series_in_parts, series_of_nodes}
use Rattle.value_views.specs.Views.{view_of}
use Rattle.value_views.specs.declared.way.Finding.{Finding}
use Rattle.value_views.specs.declared.way.Step.{Step}
use Rattle.value_views.specs.declared.way.Step.TheVariants as steps

-- ---- parts by their numbers

-- a choice of a choice, where there is one
abbrev pub and_then : (Tree → Option Tree) → Option Tree → Option Tree
and_then choice None = None
and_then choice (Some value) = choice value

-- the part of this number that stands in a value, none where a Union selects another
abbrev pub part_of : ℕ → Tree → Option Tree
part_of zero = first_part
part_of (suc number) = λ value. and_then (part_of number) (other_parts value)

-- ---- where a way leads

-- the node with such elements to which steps lead from a series of this dimensionality
abbrev pub led : Ltype → List Step → ℕ → List Tree → NodeSeries
led element [] dims series = record { element = element; dims = dims; series = series }
led element (steps.Part number ∷ more) dims series = led element more dims (replaced (part_of number) dims series)
led element (steps.Sync own ∷ more) dims series = led element more (deep dims own) series
led element (steps.Flatten own ∷ more) dims series = led element more own (leaves dims series)

-- the view of that node
abbrev pub gathered : Ltype → List Step → ℕ → List Tree → List nests.Tree
gathered element way dims series = view_of (led element way dims series)

-- steps lead from values of this type to elements of that type
abbrev mutual
  pub Leads : Ltype → List Step → Ltype → Type 0
  Leads from [] element = from ≡ element
  Leads (types.group parts) (steps.Part number ∷ more) element = LeadsInPart parts number more element
  Leads (types.union parts) (steps.Part number ∷ more) element = LeadsInPart parts number more element
  Leads (types.stream inner user settings) (steps.Sync own ∷ more) element = (settings.sync ≡ syncs.Sync) × ((settings.dims ≡ own) × Leads inner more element)
  Leads (types.stream inner user settings) (steps.Flatten own ∷ more) element = (settings.sync ≡ syncs.Flatten) × ((settings.dims ≡ own) × Leads inner more element)
  Leads from way element = ⊥

  -- the same from values of the part of this number
  pub LeadsInPart : Parts → ℕ → List Step → Ltype → Type 0
  LeadsInPart types.no_parts number more element = ⊥
  LeadsInPart (types.part name ltype others) zero more element = Leads ltype more element
  LeadsInPart (types.part name ltype others) (suc number) more element = LeadsInPart others number more element

-- ---- the search for a node

-- a node's dimensionality, and the type of its elements
pub record NodeType : Type 0 where
  pub dims : ℕ
  pub element : Ltype

-- the Streams of a type that are roots, in preorder, where the node around the type has so many dimensions
abbrev mutual
  pub root_types : ℕ → Ltype → List NodeType
  root_types dims types.null = []
  root_types dims (types.bits width) = []
  root_types dims (types.group parts) = root_types_in_parts dims parts
  root_types dims (types.union parts) = root_types_in_parts dims parts
  root_types dims (types.stream element user settings) =
      (if is_apart settings.sync then record { dims = dims_inside settings.sync dims settings.dims; element = element } ∷ [] else [])
      ++ root_types (dims_inside settings.sync dims settings.dims) element

  pub root_types_in_parts : ℕ → Parts → List NodeType
  root_types_in_parts dims types.no_parts = []
  root_types_in_parts dims (types.part name ltype more) = root_types dims ltype ++ root_types_in_parts dims more

-- no node was found
pub record HasNone (finding : Finding) : Type 0 where
  pub root : finding.root ≡ None
  pub way : finding.way.items ≡ []

-- a type with so many Streams and roots was passed
pub record HasPassed (old new : Finding) (streams roots : ℕ) : Type 0 where
  pub left : new.left + streams ≡ old.left
  pub passed : new.passed ≡ roots + old.passed
  pub root : new.root ≡ None
  pub way : new.way.items ≡ []

-- from values of a type, a way leads to its Stream of this number
pub record LeadsTo (ltype : Ltype) (number : ℕ) (way : List Step) : Type 0 where
  pub element : Ltype
  pub leads : Leads ltype way element
  pub series : (dims : ℕ) (series : List Tree) (roots : List (List Tree)) → slice_get (series_in dims series roots ltype) number ≡ Some (led element way dims series)

-- in a type inside a node of so many dimensions, a way leads from a root, of this number among the roots of the type, to the Stream of this number
pub record LeadsFrom (ltype : Ltype) (number at : ℕ) (way : List Step) (dims : ℕ) : Type 0 where
  pub root : NodeType
  pub found : slice_get (root_types dims ltype) at ≡ Some root
  pub element : Ltype
  pub leads : Leads root.element way element
  pub series : (series : List Tree) (roots : List (List Tree)) → slice_get (series_in dims series roots ltype) number ≡ Some (led element way root.dims (series_at at roots))

-- the same, where so many roots were passed before the type
pub record LeadsFromRoot (ltype : Ltype) (number before root : ℕ) (way : List Step) : Type 0 where
  pub at : ℕ
  pub is : root ≡ at + before
  pub from : (dims : ℕ) → LeadsFrom ltype number at way dims

-- the way to the Stream of this number in a type, from a root in the type or from values of the type
abbrev pub IsWay : Ltype → ℕ → ℕ → Option ℕ → List Step → Type 0
IsWay ltype number before None way = LeadsTo ltype number way
IsWay ltype number before (Some root) way = LeadsFromRoot ltype number before root way

-- the way to a Stream itself, or to one in the type of its elements
abbrev pub IsWayInside : Ltype → ℕ → ℕ → Option ℕ → List Step → Type 0
IsWayInside element zero before root way = (root ≡ None) × (way ≡ [])
IsWayInside element (suc number) before root way = IsWay element number before root way

-- the Stream was found, or the type was passed
abbrev pub FindsOrPasses : Ltype → Finding → Finding → Bool → Type 0
FindsOrPasses ltype old new true = IsWay ltype old.left old.passed new.root new.way.items
FindsOrPasses ltype old new false = HasPassed old new (number_of_streams ltype) (number_of_roots ltype)

-- so many roots more are few enough to be counted
abbrev pub HasRoom : Finding → ℕ → Type 0
HasRoom finding roots = roots + finding.passed ≤ 65536

-- a Stream was looked for in a type
abbrev pub Finds : {E : Type 0} → Finding → Finding → Result Bool E → Ltype → Type 0
Finds old new result ltype = HasNone old → HasRoom old (number_of_roots ltype) → IfOk result (FindsOrPasses ltype old new)

-- ---- parts

-- the way to the Stream of this number among parts goes to the part of this number; from a root in it, or from values of the Group or the Union
pub record LeadsToPart (parts : Parts) (which number : ℕ) (more : List Step) : Type 0 where
  pub element : Ltype
  pub leads : LeadsInPart parts which more element
  pub series : (dims : ℕ) (series : List Tree) (roots : List (List Tree))
      → slice_get (series_in_parts dims series roots parts) number ≡ Some (led element more dims (replaced (part_of which) dims series))

pub record LeadsFromPart (parts : Parts) (number at : ℕ) (way : List Step) (dims : ℕ) : Type 0 where
  pub root : NodeType
  pub found : slice_get (root_types_in_parts dims parts) at ≡ Some root
  pub element : Ltype
  pub leads : Leads root.element way element
  pub series : (series : List Tree) (roots : List (List Tree)) → slice_get (series_in_parts dims series roots parts) number ≡ Some (led element way root.dims (series_at at roots))

pub record LeadsFromRootOfPart (parts : Parts) (number before root : ℕ) (way : List Step) : Type 0 where
  pub at : ℕ
  pub is : root ≡ at + before
  pub from : (dims : ℕ) → LeadsFromPart parts number at way dims

-- the way to the Stream of this number among parts, whose first step from values of the Group or the Union goes to a part; so many parts stand before them
abbrev pub IsWayInParts : Parts → (first number before : ℕ) → Option ℕ → List Step → Type 0
IsWayInParts parts first number before (Some root) way = LeadsFromRootOfPart parts number before root way
IsWayInParts parts first number before None (steps.Part part ∷ more) = (which : ℕ) × ((part ≡ which + first) × LeadsToPart parts which number more)
IsWayInParts parts first number before None way = ⊥

abbrev pub FindsOrPassesParts : Parts → ℕ → Finding → Finding → Bool → Type 0
FindsOrPassesParts parts first old new true = IsWayInParts parts first old.left old.passed new.root new.way.items
FindsOrPassesParts parts first old new false = HasPassed old new (streams_in_parts parts) (roots_of_parts parts)

-- a Stream was looked for in parts, before which so many parts stand
abbrev pub FindsInParts : {E : Type 0} → ℕ → Finding → Finding → Result Bool E → Parts → Type 0
FindsInParts first old new result parts = HasNone old → HasRoom old (roots_of_parts parts) → IfOk result (FindsOrPassesParts parts first old new)

-- a way with a step in front, where it does not begin at a root
abbrev pub with_step : Step → Option ℕ → List Step → List Step
with_step first None way = first ∷ way
with_step first (Some root) way = way

-- a Stream was found in the part of this number, and the step to it stands in front, or the part was passed
abbrev pub FoundInPart : ℕ → Ltype → Finding → Finding → Bool → Type 0
FoundInPart number ltype old new true = (way : List Step) × (IsWay ltype old.left old.passed new.root way × (new.way.items ≡ with_step (steps.Part number) new.root way))
FoundInPart number ltype old new false = HasPassed old new (number_of_streams ltype) (number_of_roots ltype)

-- a Stream was looked for in the part of this number
abbrev pub FindsPart : {E : Type 0} → ℕ → Finding → Finding → Result Bool E → Ltype → Type 0
FindsPart number old new result ltype = HasNone old → HasRoom old (number_of_roots ltype) → IfOk result (FoundInPart number ltype old new)

-- ---- Streams

-- how many roots are passed with a Stream
abbrev pub passed_behind : Sync → ℕ → ℕ
passed_behind syncs.Sync passed = passed
passed_behind syncs.Flatten passed = passed
passed_behind syncs.Desync passed = suc passed
passed_behind syncs.FlatDesync passed = suc passed

-- the root that is nearest to the Stream that was found
abbrev pub nearest : Option ℕ → ℕ → Option ℕ
nearest None root = Some root
nearest (Some inner) root = Some inner

-- the root that a way through a Stream begins at, where the Stream would be the root of this number
abbrev pub root_through : Sync → ℕ → Option ℕ → Option ℕ
root_through syncs.Sync number root = root
root_through syncs.Flatten number root = root
root_through syncs.Desync number root = nearest root number
root_through syncs.FlatDesync number root = nearest root number

-- the way through a Stream of this dimensionality of its own
abbrev pub way_through : Sync → ℕ → Option ℕ → List Step → List Step
way_through syncs.Sync own root way = with_step (steps.Sync own) root way
way_through syncs.Flatten own root way = with_step (steps.Flatten own) root way
way_through syncs.Desync own root way = way
way_through syncs.FlatDesync own root way = way

-- the way leads through a Stream
pub record Enters (sync : Sync) (own number : ℕ) (old new : Finding) : Type 0 where
  pub root : new.root ≡ root_through sync number old.root
  pub way : new.way.items ≡ way_through sync own old.root old.way.items

-- a Stream was found to be the one that is looked for, or another one among its elements was, or both were passed
abbrev pub FoundInside : Sync → Ltype → Finding → Finding → Bool → Type 0
FoundInside sync element old new true = IsWayInside element old.left (passed_behind sync old.passed) new.root new.way.items
FoundInside sync element old new false = HasPassed old new (suc (number_of_streams element)) (passed_behind sync (number_of_roots element))

-- a Stream was looked for, which is this one or among its elements
abbrev pub FindsInside : {E : Type 0} → Finding → Finding → Result Bool E → Sync → Ltype → Type 0
FindsInside old new result sync element = HasNone old → HasRoom old (passed_behind sync (number_of_roots element)) → IfOk result (FoundInside sync element old new)

-- ---- the outermost Stream

-- the outermost Stream, of this dimensionality, as one of its kind inside a type would be: it is a root, as a Desync Stream is
abbrev pub as_root : Ltype → ℕ → Ltype
as_root element dims = types.stream element types.null (record {
  throughput = record { num = 1; den = 1 };
  dims = dims;
  sync = syncs.Desync;
  level = whole_level 1;
  reverse = false;
  keep = false;
})

-- a way leads from the root of this number to the Stream of this number, whatever dimensionality the outermost Stream has
pub record LeadsInPort (element : Ltype) (number : ℕ) (found : Option ℕ) (way : List Step) : Type 0 where
  pub root : ℕ
  pub is : found ≡ Some root
  pub from : (dims : ℕ) → LeadsFrom (as_root element dims) number root way 0

-- a Stream of the port was looked for from the outermost one on, where it is there
abbrev pub FindsInPort : {E : Type 0} → Finding → Finding → Result (Unit {0}) E → Ltype → Type 0
FindsInPort old new result element = HasNone old → old.passed ≡ 0 → old.left ≤ number_of_streams element → suc (number_of_roots element) ≤ 65536
    → OnOk result (LeadsInPort element old.left new.root new.way.items)

-- ---- gathering

-- a step goes into a Flatten Stream
abbrev pub is_flatten : Step → Bool
is_flatten (steps.Part number) = false
is_flatten (steps.Sync own) = false
is_flatten (steps.Flatten own) = true

-- all Streams on the way are Sync, so the lists of the series around them are kept
abbrev pub keeps_lists : List Step → Bool
keeps_lists [] = true
keeps_lists (step ∷ more) = if is_flatten step then false else keeps_lists more

-- it is no value of a Group
abbrev pub HasNoFields : Tree → Type 0
HasNoFields value = (parts : Trees) → value ≡ group parts → ⊥

-- a value of this depth can be gathered: it fits a type, from which the way leads to the elements
pub record CanGather (element : Ltype) (way : List Step) (depth : ℕ) (value : Tree) : Type 0 where
  pub plain : IsPlain element
  pub from : Ltype
  pub leads : Leads from way element
  pub fits : is_nest (fits_element from) depth value ≡ true

-- the same of these values
pub record CanGatherAll (element : Ltype) (way : List Step) (depth : ℕ) (values : List Tree) : Type 0 where
  pub plain : IsPlain element
  pub from : Ltype
  pub leads : Leads from way element
  pub fits : all_pass (is_nest (fits_element from) depth) (trees_of values) ≡ true

-- the views of these values were added
abbrev pub Gathers : {E : Type 0} → Ltype → List Step → ℕ → List Tree → (old new : List Nest) → Result (Unit {0}) E → Type 0
Gathers element way depth values old new result = OnOk result (map nests.plain new ≡ map nests.plain old ++ gathered element way depth values)

-- ---- the node of a number

-- the dimensionality of a node, and the type of its elements
abbrev pub type_of_node : StreamNode → NodeType
type_of_node node = record { dims = node.params.dims; element = node.element }

abbrev pub type_of_series : NodeSeries → NodeType
type_of_series node = record { dims = node.dims; element = node.element }

-- the number of the root that a way begins at, among the roots of a port; the first is the outermost Stream
abbrev pub root_of : Option ℕ → ℕ
root_of None = 0
root_of (Some root) = root

-- a way leads from the root of this number among the roots to the node of this number
pub record LeadsToNode (split : PlainSplit) (number root : ℕ) (way : List Step) : Type 0 where
  pub start : ℕ
  pub is_root : slice_get split.roots root ≡ Some start
  pub outer : StreamNode
  pub starts : slice_get split.nodes start ≡ Some outer
  pub node : StreamNode
  pub found : slice_get split.nodes number ≡ Some node
  pub leads : Leads outer.element way node.element
  pub series : (roots : List (List Tree)) → slice_get (series_of_nodes split.nodes roots) number ≡ Some (led node.element way outer.params.dims (series_at root roots))
