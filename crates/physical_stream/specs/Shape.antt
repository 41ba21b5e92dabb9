-- The shape of a list of items (this project's own, after the Tydi specification's dimensions).
use Rattle.std.specs.Prelude.{◌≡◌, ℕ, ◌+◌, Bool, true, false, not, ◌==◌, ◌||◌, nat_le, List, [], ◌∷◌, ◌++◌, Option, Some, None}
use Rattle.physical_stream.specs.declared.item.Item.{Item}
use Rattle.physical_stream.specs.declared.item.Item.TheVariants as items
use Rattle.physical_stream.specs.declared.item.Tail.{Tail}
use Rattle.physical_stream.specs.declared.item.Tail.TheVariants as tails

abbrev pub kind_of : Item → Tail
kind_of (items.Elem word) = tails.Elem
kind_of (items.Close dim) = tails.Close dim

-- the kind of the last item, or none
abbrev pub tail_of : List Item → Option Tail
tail_of [] = None
tail_of (i ∷ []) = Some (kind_of i)
tail_of (i ∷ j ∷ more) = tail_of (j ∷ more)

-- the kind of the last of these items, or what it was before them
abbrev pub tail_over : Option Tail → List Item → Option Tail
tail_over tail [] = tail
tail_over tail (item ∷ more) = tail_over (Some (kind_of item)) more

-- nothing is open after this tail: there are no dimensions, or no items, or the outermost sequence was closed
abbrev pub is_whole : ℕ → Option Tail → Bool
is_whole dims None = true
is_whole dims (Some tails.Elem) = dims == 0
is_whole dims (Some (tails.Close i)) = (dims == 0) || (i + 1 == dims)

-- a Close(j) closes an empty sequence where it stands first or right after a Close(i) with i ≥ j
abbrev pub closes_empty : Option Tail → ℕ → Bool
closes_empty None j = true
closes_empty (Some tails.Elem) j = false
closes_empty (Some (tails.Close i)) j = nat_le j i

-- a Close(j) with j ≥ 1 may stand first or right after a Close(i) with i ≥ j-1, a Close(0) anywhere
abbrev pub may_close : Option Tail → ℕ → Bool
may_close None j = true
may_close (Some tails.Elem) j = j == 0
may_close (Some (tails.Close i)) j = nat_le j (i + 1)

-- the item is a Close that may not stand after this tail
abbrev pub is_misplaced : Option Tail → Item → Bool
is_misplaced tail (items.Elem word) = false
is_misplaced tail (items.Close dim) = not (may_close tail dim)

-- some of these items is such a Close
abbrev pub has_misplaced : Option Tail → List Item → Bool
has_misplaced tail [] = false
has_misplaced tail (item ∷ more) = is_misplaced tail item || has_misplaced (Some (kind_of item)) more

-- each Close(j) of these items with j ≥ 1 stands first or right after a Close(i) with i ≥ j-1
abbrev pub IsNested : List Item → Type 0
IsNested done = (front rest : List Item) (dim : ℕ) → done ≡ front ++ items.Close dim ∷ rest → may_close (tail_of front) dim ≡ true
