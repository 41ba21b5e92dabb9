use Rattle.std.proofs.Common.{◌≡◌, map, take}
use Rattle.cycle_trace.specs.Trace.{params_of_heads}
use Rattle.cycle_trace.proofs.reader.rows.streams_of.Given as goal

abbrev pub invariant-heads : goal.invariant-heads
invariant-heads l = map (λ rows. rows.layout.params) l.streams.items ≡ params_of_heads (take l.head-index l.heads)
