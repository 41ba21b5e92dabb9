-- The word of a value (Tydi specification, logical types; the layout of a Union is this project's own).
use Rattle.std.specs.Prelude.{ℕ, zero, suc, ◌-◌, Bool, List, [], ◌++◌}
use Rattle.tydi_base.specs.Bits.{bits_of, zero_bits}
use Rattle.logical_types.specs.Tree.{Ltype, Parts, number_of_parts}
use Rattle.logical_types.specs.Tree as types
use Rattle.logical_types.specs.Width.{width_of, tag_width, greatest_width}
use Rattle.logical_value.specs.Tree.{Tree, word, group, union, Trees, tree}

-- the word of a value of an element: of a Group the words of its fields, the first in the lowest bits; of a Union the tag, then the
-- word of the variant, and zeros up to the widest variant. A Stream takes no bits.
abbrev mutual
  pub pack_of : Ltype → Tree → List Bool
  pack_of (types.bits width) (word bits) = bits
  pack_of (types.group parts) (group values) = pack_parts parts values
  pack_of (types.union parts) (union tag value) = bits_of (tag_width (number_of_parts parts)) tag ++ pack_variant (greatest_width parts) parts tag value
  pack_of ltype value = []

  -- the words of the fields of a Group, one after another
  pub pack_parts : Parts → Trees → List Bool
  pack_parts (types.part name ltype more) (tree value others) = pack_of ltype value ++ pack_parts more others
  pack_parts parts values = []

  -- the word of the variant of this number, with zeros up to this width
  pub pack_variant : ℕ → Parts → ℕ → Tree → List Bool
  pack_variant room types.no_parts tag value = zero_bits room
  pack_variant room (types.part name ltype more) zero value = pack_of ltype value ++ zero_bits (room - width_of ltype)
  pack_variant room (types.part name ltype more) (suc tag) value = pack_variant room more tag value

-- the tag of a variant, and its word with zeros up to the widest
abbrev pub pack_selected : Parts → ℕ → Tree → List Bool
pack_selected parts tag value = bits_of (tag_width (number_of_parts parts)) tag ++ pack_variant (greatest_width parts) parts tag value
