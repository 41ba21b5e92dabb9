use Rattle.std.proofs.Common.{◌≡◌, ◌++◌, ◌≤◌, length}
use Rattle.physical_stream.specs.Signals.{Fits}
use Rattle.scheduler.specs.Planned.{plan_of}
use Rattle.scheduler.specs.Stepping.{plan_from}
use Rattle.scheduler.proofs.scheduling.all_transfers.Given as goal

-- those that are made and those that are left are all
abbrev pub invariant-transfers : goal.invariant-transfers
invariant-transfers l = record {
  within : l.place ≤ length l.items;
  room : Fits l.p l.into;
  all : l.list ++ plan_from l.p l.items l.plan.wishes l.plan.users l.place (length l.list) ≡ plan_of l.p l.plan.wishes l.plan.users l.items;
}

abbrev pub decreases-transfers : goal.decreases-transfers
decreases-transfers l = length (plan_from l.p l.items l.plan.wishes l.plan.users l.place (length l.list))
