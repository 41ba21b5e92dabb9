use Rattle.vcd_read.proofs.TraceLemmas.{dumps_show_traces}
use Rattle.vcd_read.proofs.laws.dumps_show_traces.Goals as goal

pub returns : goal.returns
returns c = dumps_show_traces
