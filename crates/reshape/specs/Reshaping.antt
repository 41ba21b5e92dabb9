-- The reshaping run: a stream goes through a component that gives it other lanes and another level (this project's own).
use Rattle.std.specs.Prelude.{◌≡◌, ℕ, ◌-◌, Bool, false, not, ◌&&◌, ◌||◌, ◌==◌, nat_lt, if◌then◌else◌, List, [], ◌∷◌, ◌++◌, length, take, drop, map, slice_get, Option, Some, None}
use Rattle.physical_stream.specs.Params.{Parameters}
use Rattle.physical_stream.specs.Cycles.{Cycle, items_done}
use Rattle.physical_stream.specs.Counts.{transfers_of}
use Rattle.physical_stream.specs.Items.{items_of_all}
use Rattle.physical_stream.specs.Shape.{tail_of, is_whole}
use Rattle.physical_stream.specs.declared.item.Item.{Item}
use Rattle.physical_stream.specs.declared.transfer.Transfer.{Transfer}
use Rattle.handshake.specs.Run.{run_of, undone}
use Rattle.scheduler.specs.Lanes.{transfer_of}
use Rattle.scheduler.specs.Planned.{Load, load_of, first_wish, first_user, elements_of, plan_of}

-- ---- the front of the buffer

-- what the next far transfer takes of the items in the buffer, without wishes
abbrev pub front_load : Parameters → List Item → Load
front_load to buffer = load_of to (first_wish to []) buffer

-- the front: the next far transfer
abbrev pub front_of : Parameters → List Item → Transfer
front_of to buffer = transfer_of to (front_load to buffer).lanes (first_user to [])

-- the items of the buffer behind the front
abbrev pub behind_front : Parameters → List Item → List Item
behind_front to buffer = (front_load to buffer).rest

-- the items of the front
abbrev pub items_in_front : Parameters → List Item → List Item
items_in_front to buffer = take (length buffer - length (behind_front to buffer)) buffer

-- ---- when the buffer is due

-- an item follows the front in the buffer
abbrev pub is_followed : Parameters → List Item → Bool
is_followed to buffer = nat_lt 0 (length (behind_front to buffer))

-- the last Close of the front ends the outermost sequence
abbrev pub ends_outermost : Parameters → List Item → Bool
ends_outermost to buffer = nat_lt 0 to.dims && is_whole to.dims (tail_of (items_in_front to buffer))

-- there are no dimensions, and the front has an element in every lane
abbrev pub fills_lanes : Parameters → List Item → Bool
fills_lanes to buffer = (to.dims == 0) && (elements_of (items_in_front to buffer) == to.lanes)

-- the buffer is due: it is not empty, and nothing that comes can change its front, or nothing comes
abbrev pub is_due : Parameters → (ended : Bool) → List Item → Bool
is_due to ended [] = false
is_due to ended (item ∷ more) = is_followed to (item ∷ more) || ends_outermost to (item ∷ more) || fills_lanes to (item ∷ more) || ended

-- the transfer that the far side shows: the front, where the buffer is due
abbrev pub offered : Parameters → (ended : Bool) → List Item → Option Transfer
offered to ended buffer = if is_due to ended buffer then Some (front_of to buffer) else None

-- ---- the run of the two sides

-- what stands after some cycles: the ready bits of the near side, and the cycles of the far side
pub record Sides : Type 0 where
  pub near : List Bool
  pub far : List Cycle

-- the transfers of the source with their gaps go in at the near side, and out at the far side with its own lanes and level
module _ (from to : Parameters) (ts : List Transfer) (gaps : List ℕ) where
  -- the cycles of the near side: the run of the source under its ready bits
  abbrev pub near_cycles : Sides → List Cycle
  near_cycles sides = run_of from ts gaps sides.near

  -- the buffer: the items that went in and did not go out
  abbrev pub buffer_of : Sides → List Item
  buffer_of sides = drop (length (items_done to sides.far)) (items_done from (near_cycles sides))

  -- the source has ended: all its transfers were done
  abbrev pub has_ended : Sides → Bool
  has_ended sides = undone from ts gaps sides.near == 0

  -- the buffer is due in the cycle that comes
  abbrev pub is_due_after : Sides → Bool
  is_due_after sides = is_due to (has_ended sides) (buffer_of sides)

  -- the next cycle of the far side, by its ready bit
  abbrev pub far_cycle : Sides → Bool → Cycle
  far_cycle sides bit = record { ready = bit; shown = offered to (has_ended sides) (buffer_of sides) }

  -- a cycle more: the near side is ready exactly where the buffer is not due
  abbrev pub next_sides : Sides → Bool → Sides
  next_sides sides bit = record { near = sides.near ++ not (is_due_after sides) ∷ []; far = sides.far ++ far_cycle sides bit ∷ [] }

  -- the run under the ready bits of the far side, from some cycles on
  abbrev pub sides_on : Sides → List Bool → Sides
  sides_on sides [] = sides
  sides_on sides (bit ∷ bits) = sides_on (next_sides sides bit) bits

  -- the run from its start
  abbrev pub sides_of : List Bool → Sides
  sides_of ready = sides_on (record { near = []; far = [] }) ready

  abbrev pub near_bits_of : List Bool → List Bool
  near_bits_of ready = (sides_of ready).near

  abbrev pub far_of : List Bool → List Cycle
  far_of ready = (sides_of ready).far

  -- what stays in the buffer after the run
  abbrev pub buffer_after : List Bool → List Item
  buffer_after ready = buffer_of (sides_of ready)

  -- how many of the transfers that are planned for the items of the source are not done at the far side after the run
  abbrev pub undone_far : List Bool → ℕ
  undone_far ready = length (plan_of to [] [] (items_of_all from ts)) - transfers_of (far_of ready)

  -- the sides after so many cycles
  abbrev pub sides_before : Sides → ℕ → Sides
  sides_before sides number = record { near = take number sides.near; far = take number sides.far }

  -- the same run as a relation: a cycle of each side for each far ready bit, and each cycle is the one by those before it
  pub record IsReshaping (ready : List Bool) (sides : Sides) : Type 0 where
    pub bits : map (λ (c : Cycle). c.ready) sides.far ≡ ready
    pub many : length sides.near ≡ length sides.far
    pub near : (number : ℕ) (bit : Bool) → slice_get sides.near number ≡ Some bit → bit ≡ not (is_due_after (sides_before sides number))
    pub shown : (number : ℕ) (now : Cycle) → slice_get sides.far number ≡ Some now →
        now.shown ≡ offered to (has_ended (sides_before sides number)) (buffer_of (sides_before sides number))
