-- What is inside a value as the plain data of the value. This project's own.
use Rattle.logical_value.specs.Tree.{Tree, null, word, group, union, list, apart, plain, plain_values}
use Rattle.value_text.specs.Items.{item_of, items_of}
use Rattle.value_text.specs.declared.inside.Inside.{Inside}
use Rattle.value_text.specs.declared.inside.Inside.TheVariants as kinds

-- the value that this is inside
abbrev pub tree_of : Inside → Tree
tree_of kinds.Null = null
tree_of (kinds.Word bits) = word (item_of bits)
tree_of (kinds.Group values) = group (plain_values (items_of values))
tree_of (kinds.Union tag value) = union tag (plain (item_of value))
tree_of (kinds.List values) = list (plain_values (items_of values))
tree_of kinds.Apart = apart
