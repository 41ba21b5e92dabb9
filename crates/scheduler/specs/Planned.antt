-- Which transfers the wishes of a plan make of items (this project's own).
use Rattle.std.specs.Prelude.{◌≡◌, ℕ, zero, suc, ◌+◌, ◌-◌, ◌^◌, ◌<◌, Bool, true, false, ◌&&◌, ◌||◌, ◌==◌, nat_le, nat_lt, if◌then◌else◌, List, [], ◌∷◌, length, drop, Option, Some, None}
use Rattle.std.specs.Int.{bit_at}
use Rattle.tydi_base.specs.Bits.{zero_bits}
use Rattle.tydi_base.specs.Level.{number_of}
use Rattle.physical_stream.specs.Params.{Parameters}
use Rattle.physical_stream.specs.declared.transfer.Transfer.{Transfer}
use Rattle.physical_stream.specs.declared.item.Item.{Item}
use Rattle.physical_stream.specs.declared.item.Item.TheVariants.{Elem, Close}
use Rattle.scheduler.specs.Lanes.{Lane, no_lane, transfer_of}
use Rattle.plan_text.specs.declared.plan.Wish.{Wish}

-- ---- runs of items

-- the ascending run of Closes that items begin with, of dimensions from the least one on
abbrev pub run_from : ℕ → List Item → List ℕ
run_from least [] = []
run_from least (Elem word ∷ more) = []
run_from least (Close dim ∷ more) = if nat_le least dim then dim ∷ run_from (suc dim) more else []

abbrev pub run_of : List Item → List ℕ
run_of items = run_from 0 items

-- the items after it
abbrev pub behind_run : ℕ → List Item → List Item
behind_run least [] = []
behind_run least (Elem word ∷ more) = Elem word ∷ more
behind_run least (Close dim ∷ more) = if nat_le least dim then behind_run (suc dim) more else Close dim ∷ more

-- how many elements items begin with
abbrev pub elements_of : List Item → ℕ
elements_of [] = 0
elements_of (Elem word ∷ more) = suc (elements_of more)
elements_of (Close dim ∷ more) = 0

-- ---- the lanes that a wish allows

-- the ones of a mask below a lane
abbrev pub ones_below : ℕ → ℕ → ℕ
ones_below mask zero = 0
ones_below mask (suc lane) = bit_at mask lane + ones_below mask lane

-- the lowest one of a mask below n
abbrev pub lowest_one : ℕ → ℕ → ℕ → ℕ
lowest_one mask zero found = found
lowest_one mask (suc n) found = lowest_one mask n (if bit_at mask n == 1 then n else found)

-- the lane is allowed: all are up to level 4, as many of the lowest as the mask has ones at 5, as many from its lowest one on at 6, and above them its ones
abbrev pub is_allowed : Parameters → ℕ → ℕ → Bool
is_allowed p mask lane =
    if nat_le (number_of p.level) 4 then true
    else (if number_of p.level == 5 then nat_lt lane (ones_below mask p.lanes)
    else (if number_of p.level == 6 then nat_le (lowest_one mask p.lanes 0) lane && nat_lt lane (lowest_one mask p.lanes 0 + ones_below mask p.lanes)
    else bit_at mask lane == 1))

-- how many lanes below this one are allowed: its place among them
abbrev pub place_in : (ℕ → Bool) → ℕ → ℕ
place_in allowed zero = 0
place_in allowed (suc lane) = (if allowed lane then 1 else 0) + place_in allowed lane

-- ---- the items that a transfer carries

-- the part of the items that is taken: the content of each lane, and the items that are left
pub record Load : Type 0 where
  pub lanes : ℕ → Lane
  pub rest : List Item

-- a zero mask gives a transfer without items, where the level and the dimensions allow one
abbrev pub is_empty_wish : Parameters → Wish → Bool
is_empty_wish p wish = (wish.mask == 0) && (nat_le 7 (number_of p.level) || (nat_le 4 (number_of p.level) && nat_lt 0 p.dims))

-- elsewhere a zero mask counts as all ones
abbrev pub mask_of : Parameters → Wish → ℕ
mask_of p wish = if wish.mask == 0 then 2 ^ p.lanes - 1 else wish.mask

-- where each lane has its own ends: a lane takes an element and the run that follows it, or the run alone
abbrev pub lane_of : List Item → Lane
lane_of [] = no_lane
lane_of (Elem word ∷ more) = record { word = Some word; closes = run_of more }
lane_of (Close dim ∷ more) = record { word = None; closes = run_of (Close dim ∷ more) }

-- the items that it leaves
abbrev pub behind_lane : List Item → List Item
behind_lane [] = []
behind_lane (Elem word ∷ more) = behind_run 0 more
behind_lane (Close dim ∷ more) = behind_run 0 (Close dim ∷ more)

-- the items that so many lanes leave
abbrev pub behind_lanes : ℕ → List Item → List Item
behind_lanes zero items = items
behind_lanes (suc n) items = behind_lanes n (behind_lane items)

-- each allowed lane takes its own
abbrev pub laned_load : Parameters → (ℕ → Bool) → List Item → Load
laned_load p allowed items = record {
  lanes = λ lane. if allowed lane then lane_of (behind_lanes (place_in allowed lane) items) else no_lane;
  rest = behind_lanes (place_in allowed p.lanes) items;
}

-- the element that items begin with
abbrev pub first_word : List Item → Option (List Bool)
first_word [] = None
first_word (Elem word ∷ more) = Some word
first_word (Close dim ∷ more) = None

-- k elements in the lowest allowed lanes, and these Closes in the last lane
abbrev pub packed_load : Parameters → (ℕ → Bool) → ℕ → List ℕ → List Item → List Item → Load
packed_load p allowed k closes items rest = record {
  lanes = λ lane. record {
    word = if allowed lane && nat_lt (place_in allowed lane) k then first_word (drop (place_in allowed lane) items) else None;
    closes = if lane + 1 == p.lanes then closes else [];
  };
  rest = rest;
}

-- how many elements it takes: as many as items begin with and lanes are allowed
abbrev pub count_of : Parameters → (ℕ → Bool) → List Item → ℕ
count_of p allowed items = if nat_le (elements_of items) (place_in allowed p.lanes) then elements_of items else place_in allowed p.lanes

-- the Closes that follow the elements are left to a later transfer
abbrev pub leaves : Parameters → Wish → ℕ → Bool
leaves p wish k = wish.late && nat_lt 0 k && nat_lt 0 p.dims && (nat_le 5 (number_of p.level) || ((number_of p.level == 4) && (k == p.lanes)))

-- k elements, and the Closes that follow them where they are not left
abbrev pub filled_load : Parameters → (ℕ → Bool) → Wish → ℕ → List Item → Load
filled_load p allowed wish k items = if leaves p wish k then packed_load p allowed k [] items (drop k items) else packed_load p allowed k (run_of (drop k items)) items (behind_run 0 (drop k items))

-- the part of these items that the wish takes
abbrev pub load_of : Parameters → Wish → List Item → Load
load_of p wish items =
    if is_empty_wish p wish then record { lanes = λ lane. no_lane; rest = items }
    else (if wish.laned && (number_of p.level == 8) then laned_load p (is_allowed p (mask_of p wish)) items
    else filled_load p (is_allowed p (mask_of p wish)) wish (count_of p (is_allowed p (mask_of p wish)) items) items)

-- ---- whole lists

-- the wish of a transfer: the plan's, and all ones past its end
abbrev pub first_wish : Parameters → List Wish → Wish
first_wish p [] = record { mask = 2 ^ p.lanes - 1; late = false; laned = false }
first_wish p (wish ∷ more) = wish

-- the list without its first
abbrev pub behind : {A : Type 0} → List A → List A
behind [] = []
behind (x ∷ more) = more

-- the user word of a transfer: the plan's, and zero past its end
abbrev pub first_user : Parameters → List (List Bool) → List Bool
first_user p [] = zero_bits p.user
first_user p (user ∷ more) = user

-- each transfer meets its wish on the items that those before it leave, and there is one exactly while items are left
abbrev pub Planned : Parameters → List Wish → List (List Bool) → List Item → List Transfer → Type 0
Planned p wishes users items [] = items ≡ []
Planned p wishes users items (t ∷ ts) =
    (items ≡ [] → ⊥) × (t ≡ transfer_of p (load_of p (first_wish p wishes) items).lanes (first_user p users))
    × Planned p (behind wishes) (behind users) (load_of p (first_wish p wishes) items).rest ts

-- the list that is planned, with so much fuel: items and wishes that are left
abbrev pub plan_on : ℕ → Parameters → List Wish → List (List Bool) → List Item → List Transfer
plan_on zero p wishes users items = []
plan_on (suc fuel) p wishes users [] = []
plan_on (suc fuel) p wishes users (item ∷ items) =
    transfer_of p (load_of p (first_wish p wishes) (item ∷ items)).lanes (first_user p users) ∷ plan_on fuel p (behind wishes) (behind users) (load_of p (first_wish p wishes) (item ∷ items)).rest

-- the list that is planned
abbrev pub plan_of : Parameters → List Wish → List (List Bool) → List Item → List Transfer
plan_of p wishes users items = plan_on (length items + length wishes) p wishes users items

-- each mask fits the lanes
abbrev pub MasksFit : Parameters → List Wish → Type 0
MasksFit p [] = Unit {0}
MasksFit p (wish ∷ more) = (wish.mask < 2 ^ p.lanes) × MasksFit p more
