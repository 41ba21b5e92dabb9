-- Where the items done on streams first differ from those that are expected (this project's own).
use Rattle.std.specs.Prelude.{◌≡◌, ℕ, suc, ◌<◌, ◌≤◌, List, length, take, Option, Some, None, slice_get}
use Rattle.std.specs.List.{flat_map}
use Rattle.std.specs.Option.{option_to_list}
use Rattle.physical_stream.specs.Cycles.{StreamTrace, items_done}
use Rattle.physical_stream.specs.declared.item.Item.{Item}
use Rattle.trace_compare.specs.Places.{place_after}
use Rattle.trace_compare.specs.declared.difference.Difference.{Difference}

-- two lists of items differ first at this number: they are the same before it, and there they have different items, or one of them ends
pub record DifferFirst (want done : List Item) (number : ℕ) : Type 0 where
  pub same : take number want ≡ take number done
  pub differ : slice_get want number ≡ slice_get done number → ⊥

-- the items done on a stream
abbrev pub done_by : StreamTrace → List Item
done_by s = items_done s.params s.cycles

-- how many items are done in the first so many cycles
abbrev pub count_done : StreamTrace → ℕ → ℕ
count_done s cycles = length (items_done s.params (take cycles s.cycles))

-- the item of this number is done in this cycle; with no cycle, the stream ends before it is done
abbrev pub IsDoneIn : StreamTrace → ℕ → Option ℕ → Type 0
IsDoneIn s item None = length (done_by s) ≤ item
IsDoneIn s item (Some cycle) = (count_done s cycle ≤ item) × (item < count_done s (suc cycle))

-- this is where the stream of this number first differs from what is expected of it: the number of the item, its place among the expected ones,
-- the cycle in which the other item is done, and the two items, of which one may be missing
pub record IsFirstDifference (number : ℕ) (want : List Item) (s : StreamTrace) (d : Difference) : Type 0 where
  pub stream : d.stream ≡ number
  pub first : DifferFirst want (done_by s) d.item
  pub place : d.place ≡ place_after s.params.dims (take d.item want)
  pub cycle : IsDoneIn s d.item d.cycle
  pub expected : d.want ≡ slice_get want d.item
  pub done : d.got ≡ slice_get (done_by s) d.item

-- the first difference of the stream of this number, or none where its items done are those that are expected
abbrev pub IsCompared : ℕ → List Item → StreamTrace → Option Difference → Type 0
IsCompared number want s None = done_by s ≡ want
IsCompared number want s (Some d) = IsFirstDifference number want s d

-- the first differences of those streams that have one, in the order of the streams
pub record AreDifferences (wants : List (List Item)) (streams : List StreamTrace) (differences : List Difference) : Type 0 where
  pub firsts : List (Option Difference)
  pub many : length firsts ≡ length streams
  pub each : (number : ℕ) (want : List Item) (s : StreamTrace) (first : Option Difference) → slice_get wants number ≡ Some want
      → slice_get streams number ≡ Some s → slice_get firsts number ≡ Some first → IsCompared number want s first
  pub are : differences ≡ flat_map option_to_list firsts
