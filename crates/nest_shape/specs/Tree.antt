-- A nest as plain data. This project's own.
use Rattle.std.specs.Prelude.{Bool, List, [], ◌∷◌}
use Rattle.nest_shape.specs.declared.nest.Nest.{Nest}
use Rattle.nest_shape.specs.declared.nest.Nest.TheOpen.{Nest-F}
use Rattle.nest_shape.specs.declared.nest.Nest.TheFolds.{fold-Nest}

-- a nest: a leaf, which is a word, or a list of nests
mutual
  pub data Tree : Type 0 where
    leaf : List Bool → Tree
    list : Trees → Tree

  pub data Trees : Type 0 where
    no_trees : Trees
    tree : Tree → Trees → Trees

-- nests as plain data, of a list of them
abbrev pub trees_of : List Tree → Trees
trees_of [] = no_trees
trees_of (first ∷ more) = tree first (trees_of more)

-- plain data of nests as a list
abbrev pub list_of : Trees → List Tree
list_of no_trees = []
list_of (tree first more) = first ∷ list_of more

-- one layer of a nest, with plain data in place of what it holds
abbrev pub plain_layer : Nest-F Tree → Tree
plain_layer (Nest-F.Leaf word) = leaf word
plain_layer (Nest-F.List parts) = list (trees_of parts)

-- the plain data of a nest
abbrev pub plain : Nest → Tree
plain = fold-Nest Tree plain_layer

-- the plain data of nests
abbrev pub plain_nests : List Nest → Trees
plain_nests [] = no_trees
plain_nests (first ∷ more) = tree (plain first) (plain_nests more)
