-- Which values are values of an element of a type (Tydi specification, logical types).
use Rattle.std.specs.Prelude.{◌≡◌, ℕ, zero, suc, length}
use Rattle.logical_types.specs.Tree.{Ltype, Parts}
use Rattle.logical_types.specs.Tree as types
use Rattle.logical_value.specs.Tree.{Tree, null, word, group, union, apart, Trees, no_trees, tree}

-- a value of an element of a type, whatever stands for its Streams: a Null has one value, a Bits a word of its width, a Group a value
-- for each field, a Union the number of a variant and a value of it
abbrev mutual
  pub IsElement : Ltype → Tree → Type 0
  IsElement types.null null = Unit {0}
  IsElement (types.bits width) (word bits) = length bits ≡ width
  IsElement (types.group parts) (group values) = AreElements parts values
  IsElement (types.union parts) (union tag value) = IsVariant parts tag value
  IsElement (types.stream element user settings) value = Unit {0}
  IsElement ltype value = ⊥

  -- a value for each of these parts
  pub AreElements : Parts → Trees → Type 0
  AreElements types.no_parts no_trees = Unit {0}
  AreElements (types.part name ltype more) (tree value others) = IsElement ltype value × AreElements more others
  AreElements parts values = ⊥

  -- a value of the variant of this number
  pub IsVariant : Parts → ℕ → Tree → Type 0
  IsVariant types.no_parts tag value = ⊥
  IsVariant (types.part name ltype more) zero value = IsElement ltype value
  IsVariant (types.part name ltype more) (suc tag) value = IsVariant more tag value

-- a value of an element with what stands for its Streams apart
abbrev mutual
  pub set_apart : Ltype → Tree → Tree
  set_apart (types.group parts) (group values) = group (set_all_apart parts values)
  set_apart (types.union parts) (union tag value) = union tag (set_variant_apart parts tag value)
  set_apart (types.stream element user settings) value = apart
  set_apart ltype value = value

  pub set_all_apart : Parts → Trees → Trees
  set_all_apart (types.part name ltype more) (tree value others) = tree (set_apart ltype value) (set_all_apart more others)
  set_all_apart parts values = values

  pub set_variant_apart : Parts → ℕ → Tree → Tree
  set_variant_apart types.no_parts tag value = value
  set_variant_apart (types.part name ltype more) zero value = set_apart ltype value
  set_variant_apart (types.part name ltype more) (suc tag) value = set_variant_apart more tag value
