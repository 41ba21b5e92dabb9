use Rattle.std.proofs.Common.{IsSome, is_some, ap, sym, subst}
use Rattle.cycle_trace.specs.Faults.{fault_in}
use Rattle.cycle_trace.specs.declared.fault.TraceFault.{TraceFault}
use Rattle.cycle_trace.proofs.BeginningLemmas.{row_fault-told}
use Rattle.cycle_trace.proofs.row.fields.StreamRows.read.Goals as goal

pub returns-in-Err-clause-calm : goal.returns-in-Err-clause-calm
returns-in-Err-clause-calm t c = subst (λ (e : TraceFault). IsSome (fault_in e)) (sym c.row_fault.ensures) (ap is_some (row_fault-told c.args.number c.args.line.now))
