use Rattle.physical_stream.specs.Items.{lane_closes}
use Rattle.trace_decode.specs.Keeping.{lane_element}
use Rattle.trace_decode.proofs.KeepLemmas.{takes-then}
use Rattle.trace_decode.proofs.stream_kept.StreamKept.take_lane.Goals as goal

pub returns-clause-taken : goal.returns-clause-taken
returns-clause-taken c =
    takes-then (lane_element c.args.p.now c.args.transfer.now c.args.lane) (lane_closes c.args.p.now c.args.transfer.now c.args.lane) c.args.self.now c.take_element.new.self c.take_closes.new.self
    c.in_ok-named.ensures.taken c.in_ok-take_closes.ensures.taken
