-- The transfers that a planner gives (this project's own).
use Rattle.std.specs.Prelude.{◌≡◌, ◌-◌, List}
use Rattle.physical_stream.specs.Params.{Parameters}
use Rattle.physical_stream.specs.declared.item.Item.{Item}
use Rattle.physical_stream.specs.declared.transfer.Transfer.{Transfer}
use Rattle.plan_text.specs.declared.plan.StreamPlan.{StreamPlan}
use Rattle.scheduler.specs.Planned.{plan_of}
use Rattle.scheduler.specs.Schedules.{IsScheduleOf}
use Rattle.scheduler.specs.Stepping.{plan_from}
use Rattle.scheduler.specs.declared.planner.Planner.{Planner}

-- all of them
abbrev pub whole_of : Planner → List Transfer
whole_of planner = plan_of planner.params planner.plan.wishes planner.plan.users planner.items

-- those that are left
abbrev pub rest_of : Planner → List Transfer
rest_of planner = plan_from planner.params planner.items planner.plan.wishes planner.plan.users planner.place (planner.count - planner.left)

-- a planner gives what is planned, and has given nothing
pub record IsPlannerOf (p : Parameters) (items : List Item) (plan : StreamPlan) (planner : Planner) : Type 0 where
  pub params : planner.params ≡ p
  pub all : IsScheduleOf p items plan (whole_of planner)
  pub rest : rest_of planner ≡ whole_of planner
