-- Schedules, and where there is none (this project's own).
use Rattle.std.specs.Prelude.{◌≡◌, ℕ, ◌-◌, ◌≤◌, Bool, List, length}
use Rattle.tydi_base.specs.Level.{number_of}
use Rattle.physical_stream.specs.Params.{Parameters}
use Rattle.physical_stream.specs.Signals.{zero_transfer}
use Rattle.physical_stream.specs.declared.item.Item.{Item}
use Rattle.physical_stream.specs.declared.transfer.Transfer.{Transfer}
use Rattle.plan_text.specs.declared.plan.StreamPlan.{StreamPlan}
use Rattle.plan_text.specs.declared.plan.Wish.{Wish}
use Rattle.scheduler.specs.Laws.{IsMultiple}
use Rattle.scheduler.specs.Planned.{Planned, plan_of}
use Rattle.scheduler.specs.Stepping.{CanGoOn, plan_from}
use Rattle.scheduler.specs.declared.fault.ScheduleFault.{ScheduleFault}
use Rattle.scheduler.specs.declared.fault.ScheduleFault.TheVariants.{CountNotMultiple, Memory}

-- each transfer has an element in every lane
abbrev pub IsWhole : Parameters → Type 0
IsWhole p = (p.dims ≡ 0) × (number_of p.level ≤ 4)

-- whole transfers are asked for, and the lanes do not divide the elements
abbrev pub IsFaultOf : Parameters → List Item → ScheduleFault → Type 0
IsFaultOf p items (CountNotMultiple count lanes) = (IsMultiple p items → ⊥) × (count ≡ length items) × (lanes ≡ p.lanes)
IsFaultOf p items Memory = Unit {0}

-- these transfers are planned, in whole ones where those are asked for
pub record IsScheduleOf (p : Parameters) (items : List Item) (plan : StreamPlan) (ts : List Transfer) : Type 0 where
  pub multiple : IsMultiple p items
  pub planned : Planned p plan.wishes plan.users items ts

-- the transfers that are left are those from a place of the items on
pub record IsReady (p : Parameters) (items : List Item) (wishes : List Wish) (users : List (List Bool)) (clear : Transfer) (count left place : ℕ) : Type 0 where
  pub can : CanGoOn p items wishes users
  pub blank : clear ≡ zero_transfer p
  pub all : count ≡ length (plan_of p wishes users items)
  pub few : left ≤ count
  pub rest : left ≡ length (plan_from p items wishes users place (count - left))
  pub within : place ≤ length items
