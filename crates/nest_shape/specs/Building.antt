-- A series as it is built (this project's own). The last lines state what contracts say of a builder; the rest serves only
-- its proofs.
use Rattle.std.specs.Prelude.{◌≡◌, ℕ, suc, ◌≤◌, ◌<◌, false, List, [], ◌∷◌, ◌++◌, Option, Some, None}
use Rattle.physical_stream.specs.Shape.{tail_of, has_misplaced}
use Rattle.physical_stream.specs.declared.item.Item.{Item}
use Rattle.physical_stream.specs.declared.item.Tail.{Tail}
use Rattle.physical_stream.specs.declared.item.Tail.TheVariants as tails
use Rattle.nest_shape.specs.Flat.{IsSeries, flat, flat_form}
use Rattle.nest_shape.specs.declared.builder.Builder.{Builder}
use Rattle.nest_shape.specs.Tree.{plain}
use Rattle.nest_shape.specs.declared.nest.Nest.{Nest}
use Rattle.nest_shape.specs.declared.builder.Open.{Open}

-- the items of what is open, the outermost first
abbrev pub items_of_open : List Open → List Item
items_of_open [] = []
items_of_open (first ∷ more) = flat_form first.depth first.members ++ items_of_open more

-- the open depths fall, from below one bound down to no less than another
abbrev pub Descends : ℕ → List Open → ℕ → Type 0
Descends below [] least = least ≤ below
Descends below (first ∷ more) least = (first.depth < below) × (IsSeries first.depth first.members × Descends first.depth more least)

-- the depth of what may be added after this tail, or any greater one
abbrev pub level_after : ℕ → Option Tail → ℕ
level_after dims None = dims
level_after dims (Some tails.Elem) = 0
level_after dims (Some (tails.Close dim)) = suc dim

-- the nests of this depth were taken out of the open ones, and nothing of it or a lower one is left
pub record Takes (dims depth : ℕ) (old new : List Open) (members : List Nest) : Type 0 where
  pub spelled : items_of_open old ≡ items_of_open new ++ flat_form depth members
  pub descends : Descends (suc dims) new (suc depth)
  pub series : IsSeries depth members

-- a nest of this depth was added to what is open
pub record AddsTo (dims depth : ℕ) (old new : List Open) (one : Nest) : Type 0 where
  pub spelled : items_of_open new ≡ items_of_open old ++ flat depth (plain one)
  pub descends : Descends (suc dims) new depth

-- a nest was added to the innermost open ones
pub record IsPushed (old new : List Open) (one : Nest) : Type 0 where
  pub front : List Open
  pub innermost : Open
  pub was : old ≡ front ++ innermost ∷ []
  pub is : new ≡ front ++ record { depth = innermost.depth; members = innermost.members ++ one ∷ [] } ∷ []

-- the state kept of these items
pub record Keeps (dims level : ℕ) (begun : List Open) (done : List Item) : Type 0 where
  pub spelled : items_of_open begun ≡ done
  pub descends : Descends (suc dims) begun level
  pub tail : level ≡ level_after dims (tail_of done)
  pub within : level ≤ dims
  pub placed : has_misplaced None done ≡ false

-- ---- the contracts of a builder

-- the builder was given these items
abbrev pub StandsFor : Builder → List Item → Type 0
StandsFor builder done = Keeps builder.dims builder.level builder.begun done

-- the dimensionality of the series that is built
abbrev pub dims_of : Builder → ℕ
dims_of builder = builder.dims

-- a Close of this dimension may be taken next
abbrev pub MayTakeClose : Builder → ℕ → Type 0
MayTakeClose builder dim = dim ≤ builder.level
