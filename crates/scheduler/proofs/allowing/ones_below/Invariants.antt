use Rattle.std.proofs.Common.{◌≡◌, ◌≤◌}
use Rattle.scheduler.specs.Planned.{ones_below}
use Rattle.scheduler.proofs.allowing.ones_below.Given as goal

-- the ones of the lanes so far are counted
abbrev pub invariant-lanes : goal.invariant-lanes
invariant-lanes l = record {
  counted : l.ones ≡ ones_below l.mask l.lane;
  few : l.ones ≤ l.lane;
}
