use Rattle.monitor_bench.proofs.ProcessLemmas.{AreFresh}
use Rattle.monitor_bench.proofs.processes.Processes.new.Given as goal

abbrev pub invariant-streams : goal.invariant-streams
invariant-streams l = AreFresh l.head-items l.head-index l.each.items
