-- One stream of a trace, as it is compared (this project's own). It serves the comparer, and no public clause.
use Rattle.std.specs.Prelude.{◌≡◌, ℕ, suc, ◌==◌, nat_le, if◌then◌else◌, ◌<◌, ◌≤◌, List, [], ◌∷◌, ◌++◌, length, take, Option, Some, None, slice_get}
use Rattle.physical_stream.specs.Cycles.{Cycle, StreamTrace, done_in}
use Rattle.physical_stream.specs.Items.{items_of_all}
use Rattle.physical_stream.specs.Params.{Parameters}
use Rattle.physical_stream.specs.declared.item.Item.{Item}
use Rattle.trace_compare.specs.Differences.{DifferFirst, IsDoneIn, done_by}
use Rattle.trace_compare.specs.Places.{rank_of}
use Rattle.trace_compare.specs.declared.stream_compared.OtherItem.{OtherItem}
use Rattle.trace_compare.specs.declared.stream_compared.StreamCompared.{StreamCompared}

-- this item, of this number, is the first done that is not the expected one
pub record IsOther (want : List Item) (s : StreamTrace) (number : ℕ) (other : OtherItem) : Type 0 where
  pub first : DifferFirst want (done_by s) number
  pub cycle : IsDoneIn s number (Some other.cycle)
  pub item : slice_get (done_by s) number ≡ Some other.item

-- so many items done are the expected ones, up to this other one; or all that are done
abbrev pub AgreesUpTo : List Item → StreamTrace → ℕ → Option OtherItem → Type 0
AgreesUpTo want s number None = done_by s ≡ take number want
AgreesUpTo want s number (Some other) = IsOther want s number other

-- the state kept of a stream, of which these items are expected
pub record ComparesStream (want : List Item) (s : StreamTrace) (state : StreamCompared) : Type 0 where
  pub within : state.same ≤ length want
  pub agrees : AgreesUpTo want s state.same state.other

-- nothing was compared yet
pub record IsFresh (state : StreamCompared) : Type 0 where
  pub same : state.same ≡ 0
  pub other : state.other ≡ None

-- ---- the items of one cycle

-- so many items at the front of these are those at the front of the expected ones, and no more
pub record IsSameFront (want items : List Item) (count : ℕ) : Type 0 where
  pub same : take count want ≡ take count items
  pub expected : count ≤ length want
  pub within : count ≤ length items
  pub other : count < length items → slice_get want count ≡ slice_get items count → ⊥

-- the state of a stream takes the items that are done in this cycle, for all cycles before it
abbrev pub TakesItems : List Item → ℕ → List Item → (old new : StreamCompared) → Type 0
TakesItems want cycle taken old new =
    (p : Parameters) (cycles : List Cycle) (row : Cycle) → length cycles ≡ cycle → items_of_all p (done_in row) ≡ taken
    → ComparesStream want (record { params = p; cycles = cycles }) old → ComparesStream want (record { params = p; cycles = cycles ++ row ∷ [] }) new

-- the state of a stream with these parameters takes a row, which is that of this cycle
abbrev pub TakesCycle : List Item → Parameters → ℕ → Cycle → (old new : StreamCompared) → Type 0
TakesCycle want p cycle row old new =
    (cycles : List Cycle) → length cycles ≡ cycle → ComparesStream want (record { params = p; cycles = cycles }) old
    → ComparesStream want (record { params = p; cycles = cycles ++ row ∷ [] }) new

-- ---- places

-- the count of items of a rank since the last one of a greater rank, where one item more comes
abbrev pub counted : ℕ → Item → ℕ → ℕ
counted rank item count = if nat_le (rank_of item) rank then (if rank_of item == rank then suc count else count) else 0
