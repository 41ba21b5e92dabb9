use Rattle.std.proofs.Common.{◌≡◌}
use Rattle.logical_types.specs.Tree.{plain}
use Rattle.physical_stream.specs.Items.{lane_items, parts_below}
use Rattle.trace_decode.specs.Keeping.{are_named}
use Rattle.trace_decode.proofs.stream_kept.has_names.Given as goal

abbrev pub invariant-lanes : goal.invariant-lanes
invariant-lanes l = l.named ≡ are_named (plain l.element) (parts_below (lane_items l.p l.transfer) l.lane)
