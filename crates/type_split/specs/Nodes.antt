-- The Streams of a port's type, a node for each (Tydi specification, physical streams; the dimensionality of a nested Stream, and
-- what a reversed Stream turns, are this project's own).
use Rattle.std.specs.Prelude.{ℕ, suc, ◌+◌, ◌-◌, ◌/◌, Bool, true, false, not, ◌||◌, nat_lt, if◌then◌else◌, List, [], ◌∷◌, ◌++◌, Option, Some, None, is_some}
use Rattle.tydi_base.specs.Frac.{Fraction}
use Rattle.physical_stream.specs.Params.{Parameters}
use Rattle.logical_types.specs.Tree.{Ltype, null, bits, group, union, stream, Parts, no_parts, part, Settings}
use Rattle.logical_types.specs.Synchronicity.{is_apart}
use Rattle.logical_types.specs.Width.{width_of}
use Rattle.logical_types.specs.Faults.{outermost, inside}
use Rattle.logical_types.specs.declared.streams.Around.{Around}
use Rattle.logical_types.specs.declared.ltype.Sync.{Sync}
use Rattle.type_split.specs.declared.place.Place.{Place}

-- a node: a Stream of a port's type, seen from the port
pub record StreamNode : Type 0 where
  -- the names of the fields and variants that lead to it
  pub path : List (List ℕ)
  -- the number of the node around it, none for the outermost
  pub parent : Option ℕ
  -- its own dimensionality
  pub own_dims : ℕ
  -- its lanes, effective dimensionality, level, and the widths of its elements and of its user words
  pub params : Parameters
  pub sync : Sync
  -- an odd number of reversed Streams stand on its way, itself counted
  pub reversed : Bool
  -- the number of its root
  pub root : ℕ
  -- the number of its physical stream, where it has one
  pub phys : Option ℕ
  -- the type of its elements
  pub element : Ltype

-- the least whole number that is no less than a fraction
abbrev pub rounded_up : Fraction → ℕ
rounded_up fraction = (fraction.num + (fraction.den - 1)) / fraction.den

-- the parameters of a Stream whose types have this around them: its lanes are the product of the throughputs on the way, rounded up
abbrev pub params_at : Around → Ltype → Ltype → Settings → Parameters
params_at inner element user settings = record {
  lanes = rounded_up inner.product;
  dims = inner.dims;
  level = settings.level;
  element = width_of element;
  user = width_of user;
}

-- a Stream has a physical stream unless its elements and user words have no bits and it is not kept
abbrev pub is_physical : Ltype → Ltype → Settings → Bool
is_physical element user settings = nat_lt 0 (width_of element) || nat_lt 0 (width_of user) || settings.keep

-- the root of a Stream: the outermost Stream is one, and one whose sequences are not tied to those around it; another has the root of
-- the node around it
abbrev pub root_at : Place → ℕ → Sync → ℕ
root_at place number sync = if not (is_some place.parent) || is_apart sync then number else place.root

-- turned round where asked
abbrev pub turned : Bool → Bool → Bool
turned reversed true = not reversed
turned reversed false = reversed

-- the place of what stands inside a Stream of this number
abbrev pub place_inside : Place → ℕ → Settings → Place
place_inside place number settings = record {
  around = inside place.around settings;
  parent = Some number;
  root = root_at place number settings.sync;
  reversed = turned place.reversed settings.reverse;
}

-- the place of a port's type
abbrev pub outermost_place : Place
outermost_place = record { around = outermost; parent = None; root = 0; reversed = false }

-- ---- how many there are

-- the Streams of a type. The user type of a valid Stream has none.
abbrev mutual
  pub number_of_streams : Ltype → ℕ
  number_of_streams null = 0
  number_of_streams (bits width) = 0
  number_of_streams (group parts) = streams_in_parts parts
  number_of_streams (union parts) = streams_in_parts parts
  number_of_streams (stream element user settings) = suc (number_of_streams element)

  pub streams_in_parts : Parts → ℕ
  streams_in_parts no_parts = 0
  streams_in_parts (part name ltype more) = number_of_streams ltype + streams_in_parts more

-- those of them that have a physical stream
abbrev mutual
  pub number_of_physical : Ltype → ℕ
  number_of_physical null = 0
  number_of_physical (bits width) = 0
  number_of_physical (group parts) = physical_in_parts parts
  number_of_physical (union parts) = physical_in_parts parts
  number_of_physical (stream element user settings) = (if is_physical element user settings then 1 else 0) + number_of_physical element

  pub physical_in_parts : Parts → ℕ
  physical_in_parts no_parts = 0
  physical_in_parts (part name ltype more) = number_of_physical ltype + physical_in_parts more

-- ---- the nodes

-- a Stream at this place, of this number, before which so many physical streams stand
abbrev pub node_at : List (List ℕ) → Place → (number physical : ℕ) → Ltype → Ltype → Settings → StreamNode
node_at names place number physical element user settings = record {
  path = names;
  parent = place.parent;
  own_dims = settings.dims;
  params = params_at (inside place.around settings) element user settings;
  sync = settings.sync;
  reversed = turned place.reversed settings.reverse;
  root = root_at place number settings.sync;
  phys = if is_physical element user settings then Some physical else None;
  element = element;
}

-- the nodes of a type in preorder: a Stream before those in its data type, parts in their order. The first has this number, and so
-- many physical streams stand before it.
abbrev mutual
  pub nodes_in : List (List ℕ) → Place → (number physical : ℕ) → Ltype → List StreamNode
  nodes_in names place number physical null = []
  nodes_in names place number physical (bits width) = []
  nodes_in names place number physical (group parts) = nodes_in_parts names place number physical parts
  nodes_in names place number physical (union parts) = nodes_in_parts names place number physical parts
  nodes_in names place number physical (stream element user settings) =
      node_at names place number physical element user settings
      ∷ nodes_in names (place_inside place number settings) (suc number) ((if is_physical element user settings then 1 else 0) + physical) element

  pub nodes_in_parts : List (List ℕ) → Place → (number physical : ℕ) → Parts → List StreamNode
  nodes_in_parts names place number physical no_parts = []
  nodes_in_parts names place number physical (part name ltype more) =
      nodes_in (names ++ name ∷ []) place number physical ltype
      ++ nodes_in_parts names place (number_of_streams ltype + number) (number_of_physical ltype + physical) more

-- the nodes of a port's type
abbrev pub nodes_of : Ltype → List StreamNode
nodes_of ltype = nodes_in [] outermost_place 0 0 ltype
