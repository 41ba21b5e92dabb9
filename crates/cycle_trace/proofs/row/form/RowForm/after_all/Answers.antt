use Rattle.std.proofs.Common.{get_or, refl}
use Rattle.cycle_trace.proofs.RowFormLemmas.{ComesTo-all, ComesTo-next}
use Rattle.cycle_trace.proofs.row.form.RowForm.after_all.Goals as goal

pub bytes-init : goal.bytes-init
bytes-init c = λ more. refl

pub bytes-preserved : goal.bytes-preserved
bytes-preserved c = ComesTo-next c.args.self c.bytes.form c.after-form.result c.args.bytes.now c.bytes.byte-index (get_or c.args.bytes.now c.bytes.byte-index 0) c.bytes.invariant c.bytes-test.true refl c.after-form.ensures

pub returns : goal.returns
returns c = ComesTo-all c.args.self c.bytes.form c.args.bytes.now c.bytes.byte-index c.bytes.invariant c.bytes-test.false
