use Rattle.std.proofs.Common.{ℕ, ◌<◌, get_or}
use Rattle.physical_stream.specs.declared.head.Head.{Head}
use Rattle.physical_stream.specs.StreamLine.{IsHead}
use Rattle.cycle_trace.proofs.laws.heads_are_in_form.Given as goal

abbrev pub invariant-heads : goal.invariant-heads
invariant-heads l = (k : ℕ) (d : Head) → k < l.head-index → IsHead (get_or l.heads k d)
