use Rattle.std.proofs.Common.{◌≡◌}
use Rattle.physical_stream.specs.Items.{lane_items, parts_below}
use Rattle.physical_stream.proofs.items.items_of.Given as goal

abbrev pub invariant-lanes : goal.invariant-lanes
invariant-lanes l = l.items ≡ parts_below (lane_items l.p l.transfer) l.lane
