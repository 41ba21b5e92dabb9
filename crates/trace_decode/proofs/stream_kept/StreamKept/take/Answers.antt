use Rattle.logical_types.specs.Tree.{plain}
use Rattle.physical_stream.specs.Items.{lane_items}
use Rattle.trace_decode.proofs.KeepLemmas.{named-more, takes-part}
use Rattle.trace_decode.proofs.stream_kept.StreamKept.take.Goals as goal

pub lanes-preserved : goal.lanes-preserved
lanes-preserved c = record {
  taken =
      takes-part (lane_items c.args.p.now c.args.transfer.now) c.lanes.lane c.args.self.now c.lanes.self c.take_lane.new.self c.lanes.invariant.taken c.in_ok-named.ensures.taken;
  named =
      named-more (plain c.args.element.now) c.args.p.now c.args.transfer.now c.lanes.lane c.lanes.named c.in_ok-named.field-0 c.lanes.invariant.named c.in_ok-named.ensures.named;
  dims = c.in_ok-named.ensures.taken.dims c.args.p.now.dims c.lanes.invariant.dims;
}
