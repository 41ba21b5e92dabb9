-- How a wish is met: which lanes may take elements, up to which item, and where ends of sequences go (this project's own).
use Rattle.std.specs.Prelude.{◌≡◌, ℕ, ◌+◌, ◌-◌, ◌^◌, ◌<◌, ◌≤◌, ◌==◌, true, nat_le, if◌then◌else◌, List, length, drop}
use Rattle.physical_stream.specs.Params.{Parameters}
use Rattle.physical_stream.specs.declared.item.Item.{Item}
use Rattle.scheduler.specs.declared.way.Way.{Way}
use Rattle.scheduler.specs.Planned.{behind_run, elements_of, is_allowed, leaves, load_of, ones_below}
use Rattle.scheduler.specs.Filling.{is_set, lanes_on, left_on}
use Rattle.plan_text.specs.declared.plan.Wish.{Wish}

-- these are the lanes that the mask allows
pub record Allows (p : Parameters) (mask allowed : ℕ) : Type 0 where
  pub each : (lane : ℕ) → lane < p.lanes → is_set allowed lane ≡ is_allowed p mask lane

-- so many elements stand from a place on, up to a number
pub record IsCounted (items : List Item) (place most count : ℕ) : Type 0 where
  pub is : count ≡ (if nat_le (elements_of (drop place items)) most then elements_of (drop place items) else most)
  pub within : place + count ≤ length items

-- all of so many items from a place on are elements
pub record AreCounted (items : List Item) (place count : ℕ) : Type 0 where
  pub all : elements_of (drop place items) ≡ count + elements_of (drop (place + count) items)
  pub within : place + count ≤ length items

-- elements go into the lowest allowed lanes, and the ends behind them into the last lane, where they are not left
pub record IsPackedWay (p : Parameters) (wish : Wish) (lanes : ℕ) (items : List Item) (place : ℕ) (way : Way) : Type 0 where
  pub count : ℕ
  pub counted : IsCounted items place (ones_below lanes p.lanes) count
  pub allowed : way.allowed ≡ lanes
  pub stop : way.stop ≡ place + count
  pub ends : way.ends ≡ (if leaves p wish count then 0 else 2 ^ (p.lanes - 1))

-- the items that a packed way leaves: those from its stop on, behind the ends there where a lane takes ends
abbrev pub left_by : Way → List Item → List Item
left_by way items = if way.ends == 0 then drop way.stop items else behind_run 0 (drop way.stop items)

-- the way takes of the items from a place on what the wish takes
pub record Meets (p : Parameters) (wish : Wish) (items : List Item) (place : ℕ) (way : Way) : Type 0 where
  pub stop : way.stop ≤ length items
  pub lanes : (lane : ℕ) → lane < p.lanes → lanes_on way items place lane ≡ (load_of p wish (drop place items)).lanes lane
  pub rest : left_on way items place p.lanes ≡ (load_of p wish (drop place items)).rest
  pub packed : way.is_packed ≡ true → left_by way items ≡ (load_of p wish (drop place items)).rest
