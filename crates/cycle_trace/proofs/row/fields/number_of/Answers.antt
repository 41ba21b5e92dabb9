use Rattle.cycle_trace.proofs.SignalSpelling.{value_of-spelled}
use Rattle.cycle_trace.proofs.row.fields.number_of.Goals as goal

pub returns-in-Some : goal.returns-in-Some
returns-in-Some c = rw c.in-Some.ensures (value_of-spelled c.args.key c.in-Some.found.0.now _)
