-- The results of a walk over the items of a transfer (this project's own).
use Rattle.std.specs.Prelude.{◌≡◌, ℕ, Bool, true, false, not, List, [], ◌∷◌, count_by, Option, Some, None}
use Rattle.physical_stream.specs.Shape.{tail_over, has_misplaced, closes_empty}
use Rattle.physical_stream.specs.Counts.{ends_packet}
use Rattle.physical_stream.specs.declared.item.Item.{Item}
use Rattle.physical_stream.specs.declared.item.Item.TheVariants as items
use Rattle.physical_stream.specs.declared.item.Tail.{Tail}
use Rattle.complexity_rules.specs.declared.walk.Walk.{Walk}

-- some of these items is an element
abbrev pub has_element : List Item → Bool
has_element [] = false
has_element (items.Elem word ∷ more) = true
has_element (items.Close dim ∷ more) = has_element more

-- the dimension of the first Close
abbrev pub first_close : List Item → Option ℕ
first_close [] = None
first_close (items.Elem word ∷ more) = first_close more
first_close (items.Close dim ∷ more) = Some dim

-- the first of two, where there is one
abbrev pub first_of_two : Option ℕ → Option ℕ → Option ℕ
first_of_two None y = y
first_of_two (Some x) y = Some x

-- the findings of a walk that begins after this tail and goes over these items
pub record Finds (dims : ℕ) (begins : Option Tail) (over : List Item) (walk : Walk) : Type 0 where
  pub last : walk.tail ≡ tail_over begins over
  pub active : walk.active ≡ has_element over
  pub first : walk.first_close ≡ first_close over
  pub misplaced : walk.misplaced ≡ has_misplaced begins over
  pub packets : walk.packets ≡ count_by (ends_packet dims) over

-- nothing is closed first, or what is closed first is no empty sequence
abbrev pub misses_empty : Option Tail → Option ℕ → Bool
misses_empty tail None = true
misses_empty tail (Some dim) = not (closes_empty tail dim)
