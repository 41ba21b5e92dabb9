-- How far the front of a list of items reaches, item after item (this project's own).
use Rattle.std.specs.Prelude.{◌≡◌, ℕ, ◌+◌, ◌<◌, ◌≤◌, Bool, false, ◌&&◌, ◌==◌, nat_le, nat_lt, if◌then◌else◌, List, [], ◌∷◌, ◌++◌, length, take, slice_get, Option, Some, None}
use Rattle.physical_stream.specs.Params.{Parameters}
use Rattle.physical_stream.specs.Shape.{tail_of}
use Rattle.physical_stream.specs.declared.item.Item.{Item}
use Rattle.physical_stream.specs.declared.item.Item.TheVariants.{Elem, Close}
use Rattle.physical_stream.specs.declared.item.Tail.{Tail}
use Rattle.physical_stream.specs.declared.item.Tail.TheVariants as tails
use Rattle.scheduler.specs.Planned.{elements_of}
use Rattle.reshape.specs.declared.front.Front.{Front}
use Rattle.reshape.specs.Held.{held_in}

-- a front with no item
abbrev pub no_front : Front
no_front = record { elements = 0; least = 0; size = 0 }

-- a front goes on with an element before its first Close, up to one for each lane, and with a Close of a dimension above those that it has
abbrev pub goes_on : ℕ → Front → Item → Bool
goes_on lanes front (Elem word) = (front.least == 0) && nat_lt front.elements lanes
goes_on lanes front (Close dim) = nat_le front.least dim

-- the front with this item
abbrev pub with_item : Front → Item → Front
with_item front (Elem word) = record { elements = front.elements + 1; least = front.least; size = front.size + 1 }
with_item front (Close dim) = record { elements = front.elements; least = dim + 1; size = front.size + 1 }

-- the items that a front leaves of those that come next
abbrev pub left_behind : ℕ → Front → List Item → List Item
left_behind lanes front [] = []
left_behind lanes front (item ∷ more) = if goes_on lanes front item then left_behind lanes (with_item front item) more else item ∷ more

-- one more than the dimension of a last Close; 0 where the last item is none
abbrev pub above_tail : Option Tail → ℕ
above_tail None = 0
above_tail (Some tails.Elem) = 0
above_tail (Some (tails.Close dim)) = dim + 1

-- the first of these items are of the front so far, which may go on behind them
pub record IsBegun (p : Parameters) (items : List Item) (front : Front) : Type 0 where
  pub within : front.size ≤ length items
  pub behind : (more : List Item) → left_behind p.lanes no_front (take front.size items ++ more) ≡ left_behind p.lanes front more
  pub elements : elements_of (take front.size items) ≡ front.elements
  pub held : held_in (take front.size items) ≡ front.elements
  pub flat : front.least ≡ 0 → front.elements ≡ front.size
  pub steep : 0 < front.least → front.elements < front.size
  pub last : front.least ≡ above_tail (tail_of (take front.size items))
  pub few : front.elements ≤ p.lanes
  pub low : front.least ≤ p.dims
  pub short : front.size ≤ front.elements + front.least

-- the front of these items: its first items, and it does not go on with the next
pub record IsFront (p : Parameters) (items : List Item) (front : Front) : Type 0 where
  pub begun : IsBegun p items front
  pub stops : (item : Item) → slice_get items front.size ≡ Some item → goes_on p.lanes front item ≡ false
