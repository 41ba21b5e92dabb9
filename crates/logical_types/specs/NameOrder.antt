-- Names in an order that ignores case, by their numbers. It serves the search for a name that stands twice, and no public clause.
use Rattle.std.specs.Prelude.{◌≡◌, ℕ, ◌+◌, ◌<◌, Bool, true, false, List, [], length, map, slice_index, slice_index_or}
use Rattle.std.specs.Char.{to_ascii_lowercase}
use Rattle.std.specs.Cmp.Lexicographic.{slice_cmp}
use Rattle.std.specs.Ordering.{is_eq, nat_cmp}
use Rattle.std.specs.declared.cmp.Ordering.{Ordering}

-- the order of two names when case is ignored: that of their bytes in lower case
abbrev pub name_cmp : List ℕ → List ℕ → Ordering
name_cmp one other = slice_cmp nat_cmp (map to_ascii_lowercase one) (map to_ascii_lowercase other)

-- the order of the names of two numbers; a number that has no name counts as the empty one
abbrev pub number_cmp : List (List ℕ) → ℕ → ℕ → Ordering
number_cmp names one other = name_cmp (slice_index_or names one []) (slice_index_or names other [])

-- whether the numbers at a place and behind it have one name
abbrev pub has_same_next : List (List ℕ) → List ℕ → ℕ → Bool
has_same_next names numbers place = is_eq (number_cmp names (slice_index numbers place) (slice_index numbers (place + 1)))

-- two numbers that stand together have one name
abbrev pub HasSameNeighbours : List (List ℕ) → List ℕ → Type 0
HasSameNeighbours names numbers = (place : ℕ) × (place + 1 < length numbers) × (has_same_next names numbers place ≡ true)

-- no two that stand together have one
abbrev pub AreNeighboursApart : List (List ℕ) → List ℕ → Type 0
AreNeighboursApart names numbers = (place : ℕ) → place + 1 < length numbers → has_same_next names numbers place ≡ false
