-- The place of an item in a stream, by the items before it (this project's own).
use Rattle.std.specs.Prelude.{ℕ, zero, suc, ◌==◌, nat_le, List, [], ◌∷◌, filter, length, reverse}
use Rattle.std.specs.List.{take_while}
use Rattle.physical_stream.specs.declared.item.Item.{Item}
use Rattle.physical_stream.specs.declared.item.Item.TheVariants as items

-- the rank of an item: 0 for an element, and one more than its dimension for the end of a sequence
abbrev pub rank_of : Item → ℕ
rank_of (items.Elem word) = 0
rank_of (items.Close dim) = suc dim

-- the items after the last one of a greater rank than this, the last of them first
abbrev pub since_greater : ℕ → List Item → List Item
since_greater rank before = take_while (λ item. nat_le (rank_of item) rank) (reverse before)

-- how many items of this rank come after the last one of a greater rank
abbrev pub count_since : ℕ → List Item → ℕ
count_since rank before = length (filter (λ item. rank_of item == rank) (since_greater rank before))

-- these counts for each rank from this one down to 0
abbrev pub counts_down : ℕ → List Item → List ℕ
counts_down zero before = count_since 0 before ∷ []
counts_down (suc rank) before = count_since (suc rank) before ∷ counts_down rank before

-- the place behind these items, in a stream of so many dimensions: for each dimension, from the outermost down, how many sequences of it have ended
-- since the last end of a greater dimension, and then how many elements came since the last end of any. Behind 1, 2, Close 0 it is 1, 0.
abbrev pub place_after : ℕ → List Item → List ℕ
place_after dims before = counts_down dims before
