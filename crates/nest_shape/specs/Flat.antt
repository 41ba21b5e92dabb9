-- The flat form of nests: the items that stand for them in a stream (this project's own, after the Tydi specification's dimensions).
use Rattle.std.specs.Prelude.{◌≡◌, ℕ, ◌-◌, ◌<◌, List, [], ◌∷◌, ◌++◌}
use Rattle.physical_stream.specs.declared.item.Item.{Item}
use Rattle.physical_stream.specs.declared.item.Item.TheVariants as items
use Rattle.nest_shape.specs.declared.nest.Nest.{Nest}
use Rattle.nest_shape.specs.Tree.{Tree, leaf, list, Trees, no_trees, tree, plain_nests}

-- the flat form of a nest of this depth: a leaf is its element, a list of depth k is its parts, one after another, and then Close(k-1)
abbrev mutual
  pub flat : ℕ → Tree → List Item
  flat depth (leaf word) = items.Elem word ∷ []
  flat depth (list parts) = flat_all (depth - 1) parts ++ items.Close (depth - 1) ∷ []

  -- the flat forms of nests of this depth, one after another
  pub flat_all : ℕ → Trees → List Item
  flat_all depth no_trees = []
  flat_all depth (tree first more) = flat depth first ++ flat_all depth more

-- a nest has this depth: a leaf has depth 0, and a list one more than each of its parts
abbrev mutual
  pub HasDepth : ℕ → Tree → Type 0
  HasDepth depth (leaf word) = depth ≡ 0
  HasDepth depth (list parts) = (0 < depth) × HaveDepth (depth - 1) parts

  -- nests that all have this depth
  pub HaveDepth : ℕ → Trees → Type 0
  HaveDepth depth no_trees = Unit {0}
  HaveDepth depth (tree first more) = HasDepth depth first × HaveDepth depth more

-- a series of this dimensionality: each of its members has it as its depth
abbrev pub IsSeries : ℕ → List Nest → Type 0
IsSeries dims series = HaveDepth dims (plain_nests series)

-- the flat form of a series of this dimensionality
abbrev pub flat_form : ℕ → List Nest → List Item
flat_form dims series = flat_all dims (plain_nests series)
