use Rattle.std.proofs.Common.{◌∙◌, ℕ, ◌++◌, ◌∷◌, [], Err, IsSome, is_some, refl, ap, sym, subst}
use Rattle.cycle_trace.specs.Beginnings.{Fails}
use Rattle.cycle_trace.specs.Faults.{fault_in}
use Rattle.cycle_trace.specs.RowText.{row_fault}
use Rattle.cycle_trace.specs.declared.fault.TraceFault.{TraceFault}
use Rattle.cycle_trace.specs.declared.fault.TraceFault.TheVariants.{RowsLeft}
use Rattle.cycle_trace.proofs.BeginningLemmas.{left-fails, row_fault-told}
use Rattle.cycle_trace.proofs.RowsReadLemmas.{all_read, less_of, long-fails, not_whole}
use Rattle.cycle_trace.proofs.reader.lines.long_fault.Goals as goal

pub returns-then-is_whole-clause-fails : goal.returns-then-is_whole-clause-fails
returns-then-is_whole-clause-fails c t bytes line h goes is more =
    left-fails t (all_read c.args.rows.now t h (c.if-is_whole.ensures.0 refl)) bytes line goes more ∙ ap (λ (n : ℕ). Err (RowsLeft n)) (sym (c.line_number-number.ensures t h))

pub returns-else-is_whole-clause-fails : goal.returns-else-is_whole-clause-fails
returns-else-is_whole-clause-fails c t bytes line h goes is =
    let less = less_of c.args.rows.now t h (not_whole _ c.if-is_whole.ensures) in
    subst (λ (fault : TraceFault). Fails (bytes ++ 10 ∷ []) fault) (sym (c.fault.ensures line is.form_is ∙ ap (λ (n : ℕ). row_fault n line) (c.line_number-number.ensures t h))) (long-fails c.args.rows.now t h less bytes line goes is.long)

pub returns-else-is_whole-clause-calm : goal.returns-else-is_whole-clause-calm
returns-else-is_whole-clause-calm c line is = subst (λ (fault : TraceFault). IsSome (fault_in fault)) (sym (c.fault.ensures line is)) (ap is_some (row_fault-told c.line_number-number.result line))
