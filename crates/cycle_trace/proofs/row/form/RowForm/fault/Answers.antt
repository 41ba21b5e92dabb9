use Rattle.std.proofs.Common.{true, false, sym, ◌∙◌}
use Rattle.cycle_trace.proofs.RowFormLemmas.{fault_of}
use Rattle.cycle_trace.proofs.row.form.RowForm.fault.Goals as goal

pub returns-then-is_whole : goal.returns-then-is_whole
returns-then-is_whole c line is = fault_of c.args.self line c.args.number true is (sym c.if-is_whole.true ∙ c.is_whole.ensures)

pub returns-else-is_whole : goal.returns-else-is_whole
returns-else-is_whole c line is = fault_of c.args.self line c.args.number false is (sym c.if-is_whole.false ∙ c.is_whole.ensures)
