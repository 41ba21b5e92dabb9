use Rattle.std.proofs.Common.{drop}
use Rattle.cycle_trace.proofs.RowFormLemmas.{ComesTo}
use Rattle.cycle_trace.proofs.row.form.RowForm.after_all.Given as goal

abbrev pub invariant-bytes : goal.invariant-bytes
invariant-bytes l = ComesTo l.fn.self l.form l.bytes (drop l.byte-index l.bytes)
