use Rattle.std.proofs.Common.{◌≡◌, take}
use Rattle.cycle_trace.specs.Trace.{params_of_heads}
use Rattle.port_gen.proofs.text_sum.params_of.Given as goal

abbrev pub invariant-heads : goal.invariant-heads
invariant-heads l = l.params ≡ params_of_heads (take l.head-index l.heads)
