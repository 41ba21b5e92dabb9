use Rattle.cycle_trace.proofs.RowFormLemmas.{whole-Signal}
use Rattle.cycle_trace.proofs.row.form.RowForm.is_whole.Goals as goal

pub returns-in-Signal : goal.returns-in-Signal
returns-in-Signal c = rw c.in-Signal.is (whole-Signal _)
