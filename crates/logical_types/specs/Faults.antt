-- The errors of a type (Tydi specification, logical types; the limits are this project's own).
use Rattle.std.specs.Prelude.{◌≡◌, ℕ, ◌+◌, ◌*◌, ◌==◌, Bool, true, false, not, ◌||◌, nat_lt, List, [], ◌∷◌, ◌++◌, filter, slice_get, Some, Result, Ok, Err}
use Rattle.std.specs.List.{flat_map}
use Rattle.tydi_base.specs.Frac.{Fraction}
use Rattle.logical_types.specs.Tree.{Ltype, null, bits, group, union, stream, Parts, no_parts, part, Settings, has_stream, names_of}
use Rattle.logical_types.specs.Width.{width_of}
use Rattle.logical_types.specs.Names.{has_name_twice}
use Rattle.logical_types.specs.Throughput.{product_of, fits_words}
use Rattle.logical_types.specs.declared.streams.Around.{Around}
use Rattle.logical_types.specs.declared.ltype.Sync.{Sync}
use Rattle.logical_types.specs.declared.ltype.Sync.TheVariants as syncs
use Rattle.logical_types.specs.declared.fault.TypeFault.{TypeFault}
use Rattle.logical_types.specs.declared.fault.TypeFault.TheVariants as faults

-- ---- the nodes of a type

-- around the outermost type there is no Stream: the product of no throughputs, and no dimension
abbrev pub outermost : Around
outermost = record { product = record { num = 1; den = 1 }; dims = 0 }

-- a Stream that is not flattened takes over the dimensions of the Stream around it
abbrev pub dims_taken_over : Sync → ℕ → ℕ
dims_taken_over syncs.Sync dims = dims
dims_taken_over syncs.Flatten dims = 0
dims_taken_over syncs.Desync dims = dims
dims_taken_over syncs.FlatDesync dims = 0

-- the dimensions of a Stream: its own, and those that it takes over
abbrev pub effective_dims : ℕ → Sync → ℕ → ℕ
effective_dims dims sync around = dims + dims_taken_over sync around

-- the surroundings of the types inside a Stream: the product of the throughputs on the path, the Stream's own included, and its
-- effective dimensionality
abbrev pub inside : Around → Settings → Around
inside around settings = record {
  product = product_of around.product settings.throughput;
  dims = effective_dims settings.dims settings.sync around.dims;
}

-- a type somewhere in a type, with what is around it
pub record TypeNode : Type 0 where
  pub around : Around
  pub ltype : Ltype

-- all nodes of a type in preorder: a type before what it holds, a Group's or a Union's parts in their order, a Stream's data type
-- before its user type
abbrev mutual
  pub nodes : Around → Ltype → List TypeNode
  nodes around null = record { around = around; ltype = null } ∷ []
  nodes around (bits width) = record { around = around; ltype = bits width } ∷ []
  nodes around (group parts) = record { around = around; ltype = group parts } ∷ nodes_of_parts around parts
  nodes around (union parts) = record { around = around; ltype = union parts } ∷ nodes_of_parts around parts
  nodes around (stream element user settings) = record { around = around; ltype = stream element user settings } ∷ (nodes (inside around settings) element ++ nodes (inside around settings) user)

  pub nodes_of_parts : Around → Parts → List TypeNode
  nodes_of_parts around no_parts = []
  nodes_of_parts around (part name ltype more) = nodes around ltype ++ nodes_of_parts around more

-- ---- the faults at one node

-- a Bits without bits
abbrev pub is_zero_bits : Ltype → Bool
is_zero_bits null = false
is_zero_bits (bits width) = width == 0
is_zero_bits (group parts) = false
is_zero_bits (union parts) = false
is_zero_bits (stream element user settings) = false

-- an element of over 4,096 bits
abbrev pub is_too_wide : Ltype → Bool
is_too_wide ltype = nat_lt 4096 (width_of ltype)

-- a throughput of zero, or one whose product with that around it does not fit
abbrev pub is_bad_throughput : Fraction → Fraction → Bool
is_bad_throughput around throughput = throughput.num == 0 || not (fits_words (product_of around throughput))

abbrev pub has_bad_throughput : Around → Settings → Bool
has_bad_throughput around settings = is_bad_throughput around.product settings.throughput

-- a product over 128: so many lanes are too few
abbrev pub has_too_many_lanes : Around → Settings → Bool
has_too_many_lanes around settings = nat_lt (128 * (inside around settings).product.den) (inside around settings).product.num

-- over 32 dimensions
abbrev pub has_too_many_dims : Around → Settings → Bool
has_too_many_dims around settings = nat_lt 32 (inside around settings).dims

-- a test of the arguments of a Stream, which no other type passes
abbrev pub if_stream : (Settings → Bool) → Ltype → Bool
if_stream test null = false
if_stream test (bits width) = false
if_stream test (group parts) = false
if_stream test (union parts) = false
if_stream test (stream element user settings) = test settings

-- a Stream in a user type
abbrev pub user_has_stream : Ltype → Bool
user_has_stream null = false
user_has_stream (bits width) = false
user_has_stream (group parts) = false
user_has_stream (union parts) = false
user_has_stream (stream element user settings) = has_stream user

-- two parts of one name, when case is ignored
abbrev pub has_part_twice : Ltype → Bool
has_part_twice null = false
has_part_twice (bits width) = false
has_part_twice (group parts) = has_name_twice (names_of parts)
has_part_twice (union parts) = has_name_twice (names_of parts)
has_part_twice (stream element user settings) = false

-- a Union without variants
abbrev pub is_empty_union : Ltype → Bool
is_empty_union null = false
is_empty_union (bits width) = false
is_empty_union (group parts) = false
is_empty_union (union no_parts) = true
is_empty_union (union (part name ltype more)) = false
is_empty_union (stream element user settings) = false

-- whether a type, with what is around it, has a fault itself
abbrev pub has_fault : TypeNode → TypeFault → Bool
has_fault node faults.ZeroBits = is_zero_bits node.ltype
has_fault node faults.ElementTooWide = is_too_wide node.ltype
has_fault node faults.BadThroughput = if_stream (has_bad_throughput node.around) node.ltype
has_fault node faults.TooManyLanes = if_stream (has_too_many_lanes node.around) node.ltype
has_fault node faults.TooManyDims = if_stream (has_too_many_dims node.around) node.ltype
has_fault node faults.UserHasStream = user_has_stream node.ltype
has_fault node faults.NameTwice = has_part_twice node.ltype
has_fault node faults.EmptyUnion = is_empty_union node.ltype

-- the errors, in the order in which those of one node are reported
abbrev pub all_faults : List TypeFault
all_faults = faults.ZeroBits ∷ faults.ElementTooWide ∷ faults.BadThroughput ∷ faults.TooManyLanes ∷ faults.TooManyDims ∷ faults.UserHasStream ∷ faults.NameTwice ∷ faults.EmptyUnion ∷ []

-- the errors of one node
abbrev pub faults_at : TypeNode → List TypeFault
faults_at node = filter (has_fault node) all_faults

-- the errors of a Stream's throughput, lanes and dimensions
abbrev pub rate_faults : Around → Settings → List TypeFault
rate_faults around settings = filter (has_fault (record { around = around; ltype = stream null null settings })) (faults.BadThroughput ∷ faults.TooManyLanes ∷ faults.TooManyDims ∷ [])

-- ---- the errors of a type

-- the errors of a type with this around it: those of its nodes in preorder
abbrev pub faults_within : Around → Ltype → List TypeFault
faults_within around ltype = flat_map faults_at (nodes around ltype)

-- the errors of parts
abbrev pub faults_of_parts : Around → Parts → List TypeFault
faults_of_parts around parts = flat_map faults_at (nodes_of_parts around parts)

-- the errors of a type
abbrev pub faults_of : Ltype → List TypeFault
faults_of ltype = faults_within outermost ltype

-- a type is valid where it has no fault
abbrev pub IsValid : Ltype → Type 0
IsValid ltype = faults_of ltype ≡ []

-- a type is plain where it has no fault but of throughputs, lanes and dimensions: so is each part of a valid type, whatever stands
-- around it
abbrev pub plain_faults : List TypeFault
plain_faults = faults.ZeroBits ∷ faults.ElementTooWide ∷ faults.UserHasStream ∷ faults.NameTwice ∷ faults.EmptyUnion ∷ []

abbrev pub IsPlain : Ltype → Type 0
IsPlain ltype = flat_map (λ node. filter (has_fault node) plain_faults) (nodes outermost ltype) ≡ []

-- parts that are plain
abbrev pub ArePlain : Parts → Type 0
ArePlain parts = flat_map (λ node. filter (has_fault node) plain_faults) (nodes_of_parts outermost parts) ≡ []

-- the result of a check for these errors: none, or the first
abbrev pub Tells : {A : Type 0} → List TypeFault → Result A TypeFault → Type 0
Tells found (Ok value) = found ≡ []
Tells found (Err fault) = slice_get found 0 ≡ Some fault
