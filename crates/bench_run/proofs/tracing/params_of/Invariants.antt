use Rattle.std.proofs.Common.{◌≡◌, take}
use Rattle.cycle_trace.specs.Trace.{params_of_heads}
use Rattle.bench_run.proofs.tracing.params_of.Given as goal

abbrev pub invariant-heads : goal.invariant-heads
invariant-heads l = l.streams ≡ params_of_heads (take l.head-index l.heads)
