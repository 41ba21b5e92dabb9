use Rattle.std.proofs.Common.{ap}
use Rattle.physical_stream.specs.Params.{Parameters}
use Rattle.vcd_read.proofs.probe.lanes_of.Goals as goal

pub returns-clause-value : goal.returns-clause-value
returns-clause-value c = ap (λ (p : Parameters). p.lanes) c.params.view_is

pub returns-clause-few : goal.returns-clause-few
returns-clause-few c = c.params.invariant.lanes_most

pub returns-clause-some : goal.returns-clause-some
returns-clause-some c = c.params.invariant.some_lane
