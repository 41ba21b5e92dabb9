use Rattle.std.proofs.Common.{◌≡◌, ◌≤◌}
use Rattle.scheduler.specs.Planned.{lowest_one}
use Rattle.scheduler.proofs.allowing.lowest_one.Given as goal

-- the one that is found above is the one that is found in all, where no lower one comes
abbrev pub invariant-lanes : goal.invariant-lanes
invariant-lanes l = record {
  found : lowest_one l.mask l.lane l.lowest ≡ lowest_one l.mask l.lanes 0;
  low : l.lowest ≤ l.lanes;
  within : l.lane ≤ l.lanes;
}

abbrev pub decreases-lanes : goal.decreases-lanes
decreases-lanes l = l.lane
