use Rattle.cycle_trace.proofs.RowFormLemmas.{SameFrom}
use Rattle.cycle_trace.proofs.row.form.after_signal.Given as goal

abbrev pub invariant-keys : goal.invariant-keys
invariant-keys l = SameFrom l.next l.key l.byte
