use Rattle.std.proofs.Common.{◌≡◌}
use Rattle.logical_types.specs.Tree.{plain}
use Rattle.physical_stream.specs.Items.{lane_items, parts_below}
use Rattle.trace_decode.specs.Keeping.{HasDims, Takes, are_named}
use Rattle.trace_decode.proofs.stream_kept.StreamKept.take.Given as goal

abbrev pub invariant-lanes : goal.invariant-lanes
invariant-lanes l = record {
  taken : Takes (parts_below (lane_items l.p l.transfer) l.lane) l.initial.self l.self;
  named : l.named ≡ are_named (plain l.element) (parts_below (lane_items l.p l.transfer) l.lane);
  dims : HasDims l.p.dims l.self.builder;
}
