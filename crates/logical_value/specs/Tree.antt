-- A value as plain data. This project's own.
use Rattle.std.specs.Prelude.{ℕ, Bool, List, [], ◌∷◌, map}
use Rattle.logical_value.specs.declared.value.PortValue.{PortValue}
use Rattle.logical_value.specs.declared.value.Value.{Value}
use Rattle.logical_value.specs.declared.value.Value.TheOpen.{Value-F}
use Rattle.logical_value.specs.declared.value.Value.TheFolds.{fold-Value}

-- a value: of a Null, of a Bits, of a Group, of a Union with the number of its variant, a list of values, or apart
mutual
  pub data Tree : Type 0 where
    null : Tree
    word : List Bool → Tree
    group : Trees → Tree
    union : ℕ → Tree → Tree
    list : Trees → Tree
    apart : Tree

  pub data Trees : Type 0 where
    no_trees : Trees
    tree : Tree → Trees → Trees

-- values as plain data, of a list of them
abbrev pub trees_of : List Tree → Trees
trees_of [] = no_trees
trees_of (first ∷ more) = tree first (trees_of more)

-- plain data of values as a list
abbrev pub list_of : Trees → List Tree
list_of no_trees = []
list_of (tree first more) = first ∷ list_of more

-- the members of a list of values; anything else has none
abbrev pub members : Tree → List Tree
members null = []
members (word bits) = []
members (group values) = []
members (union tag value) = []
members (list values) = list_of values
members apart = []

-- one layer of a value, with plain data in place of what it holds
abbrev pub plain_layer : Value-F Tree → Tree
plain_layer Value-F.Null = null
plain_layer (Value-F.Word bits) = word bits
plain_layer (Value-F.Group parts) = group (trees_of parts)
plain_layer (Value-F.Union tag part) = union tag part
plain_layer (Value-F.List parts) = list (trees_of parts)
plain_layer Value-F.Apart = apart

-- the plain data of a value
abbrev pub plain : Value → Tree
plain = fold-Value Tree plain_layer

-- the plain data of values
abbrev pub plain_values : List Value → Trees
plain_values [] = no_trees
plain_values (first ∷ more) = tree (plain first) (plain_values more)

-- the plain data of a value of a port's type: the series of each root
abbrev pub plain_port : PortValue → List (List Tree)
plain_port value = map (map plain) value.roots
