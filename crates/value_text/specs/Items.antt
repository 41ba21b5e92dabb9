-- Things that are gone through once, as the list of those that are left. This project's own.
use Rattle.std.specs.Prelude.{List, drop, reverse}
use Rattle.value_text.specs.declared.items.Items.{Items}
use Rattle.value_text.specs.declared.items.Items.TheVariants as rests
use Rattle.value_text.specs.declared.items.Item.{Item}
use Rattle.value_text.specs.declared.items.Item.TheVariants as things

-- the things that are left, the first of them first
abbrev pub items_of : {T : Type 0} → Items T → List T
items_of (rests.Lent left) = left.now
items_of (rests.Own left) = reverse left
items_of (rests.Behind list passed) = drop passed list

-- one of them
abbrev pub item_of : {T : Type 0} → Item T → T
item_of (things.Lent one) = one.now
item_of (things.Own one) = one
