use Rattle.std.proofs.Common.{◌≡◌, map, take}
use Rattle.watch_text.specs.Statements.{plain_statements}
use Rattle.monitor_bench.specs.Monitors.{process_for}
use Rattle.monitor_bench.proofs.making.processes.Given as goal

abbrev pub invariant-heads : goal.invariant-heads
invariant-heads l = map plain_statements l.procs ≡ map process_for (take l.head-index l.heads)
