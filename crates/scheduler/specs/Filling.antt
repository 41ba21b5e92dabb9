-- Which element each lane takes (this project's own).
use Rattle.std.specs.Prelude.{◌≡◌, ℕ, ◌^◌, bit_or, zero, suc, ◌+◌, ◌-◌, ◌*◌, Bool, ◌&&◌, ◌==◌, nat_lt, ◌<◌, ◌∷◌, [], ◌≤◌, if◌then◌else◌, List, ◌++◌, drop, length, Option, None}
use Rattle.std.specs.Int.{bit_at}
use Rattle.tydi_base.specs.Bits.{zero_bits}
use Rattle.physical_stream.specs.Params.{Parameters}
use Rattle.physical_stream.specs.Items.{parts_below}
use Rattle.physical_stream.specs.declared.item.Item.{Item}
use Rattle.physical_stream.specs.declared.item.Item.TheVariants.{Elem, Close}
use Rattle.physical_stream.specs.declared.transfer.Transfer.{Transfer}
use Rattle.scheduler.specs.declared.way.Way.{Way}
use Rattle.scheduler.specs.Lanes.{Lane, word_or, is_among, lowest_active, highest_active, active_bits}
use Rattle.scheduler.specs.Planned.{first_word, run_from, behind_run}

-- ---- lane after lane

-- one bit for each dimension, whether it is among these
abbrev pub marks : ℕ → List ℕ → List Bool
marks dims closes = parts_below (λ dim. is_among dim closes ∷ []) dims

-- the lane is among these
abbrev pub is_set : ℕ → ℕ → Bool
is_set allowed lane = bit_at allowed lane == 1

-- the items behind the element that they begin with
abbrev pub behind_word : List Item → List Item
behind_word [] = []
behind_word (Elem word ∷ more) = more
behind_word (Close dim ∷ more) = Close dim ∷ more

-- the items behind what a lane takes before its ends
abbrev pub behind_taken : Bool → List Item → List Item
behind_taken takes left = if takes then behind_word left else left

-- the element that it takes
abbrev pub taken_word : Bool → List Item → Option (List Bool)
taken_word takes left = if takes then first_word left else None

-- the part of these items that a lane carries: an element where it takes one, and the run behind it where it takes ends
abbrev pub lane_with : (takes ends : Bool) → List Item → Lane
lane_with takes ends left = record {
  word = taken_word takes left;
  closes = if ends then run_from 0 (behind_taken takes left) else [];
}

-- the items that it leaves
abbrev pub rest_with : (takes ends : Bool) → List Item → List Item
rest_with takes ends left = if ends then behind_run 0 (behind_taken takes left) else behind_taken takes left

-- a lane takes an element where it is allowed and more items than these are left
abbrev pub takes_at : (allowed least lane : ℕ) → List Item → Bool
takes_at allowed least lane left = is_set allowed lane && nat_lt least (length left)

-- the items that so many lanes leave
abbrev pub left_after : (allowed least : ℕ) → (ends : ℕ → Bool) → List Item → ℕ → List Item
left_after allowed least ends items zero = items
left_after allowed least ends items (suc lane) = rest_with (takes_at allowed least lane (left_after allowed least ends items lane)) (ends lane) (left_after allowed least ends items lane)

-- the part of the items that each lane carries
abbrev pub lane_after : (allowed least : ℕ) → (ends : ℕ → Bool) → List Item → ℕ → Lane
lane_after allowed least ends items lane = lane_with (takes_at allowed least lane (left_after allowed least ends items lane)) (ends lane) (left_after allowed least ends items lane)

-- the same by a way, from a place on
abbrev pub left_on : Way → List Item → (start lane : ℕ) → List Item
left_on way items start lane = left_after way.allowed (length items - way.stop) (is_set way.ends) (drop start items) lane

abbrev pub lanes_on : Way → List Item → (start lane : ℕ) → Lane
lanes_on way items start lane = lane_after way.allowed (length items - way.stop) (is_set way.ends) (drop start items) lane

-- the lanes below this one are written, and those from it on are clear; the strobe has one bit for each active one
pub record IsFilledBelow (p : Parameters) (lanes : ℕ → Lane) (lane : ℕ) (t : Transfer) : Type 0 where
  pub content : t.content ≡ parts_below (λ i. word_or p.element (lanes i).word) lane ++ zero_bits ((p.lanes - lane) * p.element)
  pub last : t.last ≡ parts_below (λ i. marks p.dims (lanes i).closes) lane ++ zero_bits ((p.lanes - lane) * p.dims)
  pub stai : t.stai ≡ lowest_active lanes lane 0
  pub endi : t.endi ≡ highest_active lanes lane (p.lanes - 1)
  pub strb : t.strb ≡ active_bits lanes lane

-- the lanes below this one are filled from the items from a place on, and the rest begins at another place
pub record IsFilledSoFar (p : Parameters) (way : Way) (items : List Item) (start lane place : ℕ) (old t : Transfer) : Type 0 where
  pub within : place ≤ length items
  pub content : length t.content ≡ p.lanes * p.element
  pub last : length t.last ≡ p.lanes * p.dims
  pub user : t.user ≡ old.user
  pub left : drop place items ≡ left_on way items start lane
  pub filled : IsFilledBelow p (lanes_on way items start) lane t

-- a lane more is seen, which is active or not: the numbers of the first and of the last active one, and its bit of the strobe
pub record IsActivated (active : Bool) (lane : ℕ) (old new : Transfer) : Type 0 where
  pub last : new.last ≡ old.last
  pub user : new.user ≡ old.user
  pub stai : new.stai ≡ (if active then (if old.strb == 0 then lane else old.stai) else old.stai)
  pub endi : new.endi ≡ (if active then lane else old.endi)
  pub strb : new.strb ≡ (if active then bit_or old.strb (2 ^ lane) else old.strb)

-- ---- ends of sequences

-- the items do not begin with a Close of such a dimension
abbrev pub EndsHere : ℕ → List Item → Type 0
EndsHere least items = (run_from least items ≡ []) × (behind_run least items ≡ items)

-- they begin with a Close of this dimension, at least so great, and others follow
pub record GoesOn (p : Parameters) (least : ℕ) (items : List Item) (dim : ℕ) (more : List Item) : Type 0 where
  pub within : dim < p.dims
  pub run_is : run_from least items ≡ dim ∷ run_from (dim + 1) more
  pub behind_is : behind_run least items ≡ behind_run (dim + 1) more

-- the dimensions of a run so far are marked in a lane
pub record IsMarkedSoFar (p : Parameters) (items : List Item) (lane : ℕ) (start : List Bool) (left : List Item) (least : ℕ) (last : List Bool) : Type 0 where
  pub width : length last ≡ p.lanes * p.dims
  pub few : least ≤ p.dims
  pub done : List ℕ
  pub run_is : done ++ run_from least left ≡ run_from 0 items
  pub behind_is : behind_run least left ≡ behind_run 0 items
  pub marked : (parts : List Bool) → length parts ≡ lane * p.dims → start ≡ parts ++ zero_bits ((p.lanes - lane) * p.dims) →
      last ≡ (parts ++ marks p.dims done) ++ zero_bits ((p.lanes - (lane + 1)) * p.dims)
