use Rattle.cycle_trace.proofs.TraceSpelling.{trace_of-spelled, trace_of-some}
use Rattle.cycle_trace.proofs.laws.traces_are_read_as_spelled.Goals as goal

pub returns-clause-spelled : goal.returns-clause-spelled
returns-clause-spelled c = trace_of-spelled

pub returns-clause-read : goal.returns-clause-read
returns-clause-read c = trace_of-some
