use Rattle.std.proofs.Common.{◌-◌, ◌*◌, ◌≤◌, [], Option}
use Rattle.physical_stream.specs.Items.{lane_items, parts_below}
use Rattle.physical_stream.specs.declared.item.Tail.{Tail}
use Rattle.complexity_rules.specs.Unmarked.{ShowsMarks}
use Rattle.complexity_rules.specs.Walk.{Finds}
use Rattle.complexity_rules.proofs.walk.Walk.over_lanes.Given as goal

abbrev pub decreases-lanes : goal.decreases-lanes
decreases-lanes l = l.count - l.lane

abbrev pub invariant-lanes : goal.invariant-lanes
invariant-lanes l = record {
  within : l.lane ≤ l.count;
  shows : ShowsMarks l.marks l.transfer;
  found : (begins : Option Tail) → Finds l.p.dims begins [] l.fn.self → Finds l.p.dims begins (parts_below (lane_items l.p l.transfer) l.lane) l.walk;
  few : l.walk.packets ≤ 33 * l.lane;
}
