-- Values whose Streams take the next nests of queues. It serves the joining, and no public clause.
use Rattle.std.specs.Prelude.{◌≡◌, ◌≤◌, ◌<◌, ◌⊎◌, ℕ, ◌+◌, true, false, List, [], ◌∷◌, ◌++◌, map, reverse}
use Rattle.std.specs.List.{filter_map, slice_index_or}
use Rattle.logical_types.specs.Synchronicity.{is_apart}
use Rattle.logical_types.specs.Tree.{Ltype, Parts}
use Rattle.logical_types.specs.Tree as types
use Rattle.type_split.specs.Nodes.{number_of_streams, streams_in_parts}
use Rattle.logical_value.specs.Element.{IsElement, AreElements, IsVariant, set_apart, set_all_apart, set_variant_apart}
use Rattle.logical_value.specs.Tree.{Tree, apart, group, union, Trees, tree, trees_of, plain}
use Rattle.logical_value.specs.declared.value.Value.{Value}
use Rattle.value_views.specs.Series.{first_part, leaves, other_parts}
use Rattle.value_views.specs.Shown.{AreNests, Elements}
use Rattle.value_views.specs.Words.{in_nest}
use Rattle.value_views.specs.declared.filling.Filling.{Filling}

-- the nests that are left of each node; those of a queue stand with the next one last
abbrev pub left : Filling → ℕ → List Tree
left filling number = map plain (reverse (slice_index_or filling.queues.items number []))

-- the Streams in these values of a type have these nests
abbrev mutual
  pub Takes : (ℕ → List Tree) → ℕ → Ltype → List Tree → Type 0
  Takes queues number types.null values = Unit {0}
  Takes queues number (types.bits width) values = Unit {0}
  Takes queues number (types.group parts) values = TakeParts queues number parts values
  Takes queues number (types.union parts) values = TakeParts queues number parts values
  Takes queues number (types.stream element user settings) values =
      (is_apart settings.sync ≡ true → values ≡ map (λ (value : Tree). apart) values) × (is_apart settings.sync ≡ false → queues number ≡ values)

  pub TakeParts : (ℕ → List Tree) → ℕ → Parts → List Tree → Type 0
  TakeParts queues number types.no_parts values = Unit {0}
  TakeParts queues number (types.part name ltype more) values =
      Takes queues number ltype (filter_map first_part values) × TakeParts queues (number_of_streams ltype + number) more (filter_map other_parts values)

-- the queues are as they were, but for these numbers
abbrev pub Kept : ℕ → ℕ → (ℕ → List Tree) → (ℕ → List Tree) → Type 0
Kept from to old new = (k : ℕ) → (k < from) ⊎ (to ≤ k) → new k ≡ old k

-- the queues hold what a value takes, and then what these take; with its Streams apart it is this one
pub record Waits (queues : ℕ → List Tree) (number : ℕ) (ltype : Ltype) (plain value : Tree) (more : List Tree) : Type 0 where
  pub element : IsElement ltype value
  pub same : set_apart ltype value ≡ plain
  pub takes : Takes queues number ltype (value ∷ more)

-- the queues that are left hold the nests that these take
pub record IsTaken (old new : ℕ → List Tree) (number : ℕ) (ltype : Ltype) (more : List Tree) : Type 0 where
  pub takes : Takes new number ltype more
  pub kept : Kept number (number_of_streams ltype + number) old new

-- the same of the fields of a Group
pub record FieldsWait (queues : ℕ → List Tree) (number : ℕ) (parts : Parts) (plain values : Trees) (more : List Tree) : Type 0 where
  pub elements : AreElements parts values
  pub same : set_all_apart parts values ≡ plain
  pub takes : TakeParts queues number parts (group values ∷ more)

-- the same of a variant of a Union
pub record VariantWaits (queues : ℕ → List Tree) (number : ℕ) (parts : Parts) (tag : ℕ) (plain value : Tree) (more : List Tree) : Type 0 where
  pub element : IsVariant parts tag value
  pub same : set_variant_apart parts tag value ≡ plain
  pub takes : TakeParts queues number parts (union tag value ∷ more)

pub record PartsTaken (old new : ℕ → List Tree) (number : ℕ) (parts : Parts) (more : List Tree) : Type 0 where
  pub takes : TakeParts new number parts more
  pub kept : Kept number (streams_in_parts parts + number) old new

abbrev pub joined_trees : List Tree → Trees → Trees
joined_trees [] some = some
joined_trees (value ∷ more) some = tree value (joined_trees more some)

-- these values were added
abbrev pub AreAdded : List Value → List Value → Trees → Type 0
AreAdded old new some = trees_of (map plain new) ≡ joined_trees (map plain old) some

-- the queues hold what the leaves of nests of this depth take, and then what these take; with their Streams apart they are these
pub record NestsWait (queues : ℕ → List Tree) (number : ℕ) (ltype : Ltype) (depth : ℕ) (plains values more : List Tree) : Type 0 where
  pub nested : AreNests depth values
  pub elements : Elements ltype (leaves depth values)
  pub same : map (in_nest (set_apart ltype) depth) values ≡ plains
  pub takes : Takes queues number ltype (leaves depth values ++ more)
