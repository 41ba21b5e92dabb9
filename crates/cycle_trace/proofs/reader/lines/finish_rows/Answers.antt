use Rattle.std.proofs.Common.{◌∙◌, ℕ, ◌*◌, length, Err, refl, ap, sym, arith}
use Rattle.cycle_trace.specs.Faults.{fault_in}
use Rattle.cycle_trace.specs.RowsText.{cut_row}
use Rattle.cycle_trace.specs.TraceText.{trace_of}
use Rattle.cycle_trace.specs.declared.fault.TraceFault.TheVariants.{RowsLeft}
use Rattle.cycle_trace.proofs.BeginningLemmas.{IsFault-told, cut_row-told, rows_on-cut_at, rows_on-end_at, rows_on-rest_at}
use Rattle.cycle_trace.proofs.RowsReadLemmas.{all_read, less_of, not_whole}
use Rattle.cycle_trace.proofs.reader.lines.finish_rows.Goals as goal

pub returns-then-not-is_whole-clause-finishes : goal.returns-then-not-is_whole-clause-finishes
returns-then-not-is_whole-clause-finishes g c t bytes line stands h empty is =
    let less = less_of c.args.rows.now t h (not_whole _ c.if-not-is_whole.ensures) in
    let number = c.line_number.ensures t h in
    let same = c.cut_row.ensures.fault line empty ∙ ap (λ (n : ℕ). cut_row line n c.args.rows.now.got c.line_number.result) h.want ∙ ap (λ (n : ℕ). cut_row line (t.cycles * length t.heads) n c.line_number.result) h.got
    ∙ ap (cut_row line (t.cycles * length t.heads) (length t.rows)) number in
    IsFault-told (trace_of bytes) c.cut_row.result _ (ap fault_in same ∙ cut_row-told line _ _ _)
    (is ∙ rows_on-cut_at t line (omega (arith, less, h.got, h.want)))

pub returns-then-is_empty-clause-finishes : goal.returns-then-is_empty-clause-finishes
returns-then-is_empty-clause-finishes g c t bytes line stands h empty is =
    let all = all_read c.args.rows.now t h (c.if-not-is_whole.ensures.0 refl) in
    (t, (is ∙ rows_on-end_at t all line (empty.0 c.if-is_empty.true), stands))

pub returns-else-is_empty-clause-finishes : goal.returns-else-is_empty-clause-finishes
returns-else-is_empty-clause-finishes g c t bytes line stands h empty is =
    let all = all_read c.args.rows.now t h (c.if-not-is_whole.ensures.0 refl) in
    is ∙ rows_on-rest_at t all line (λ none. let yes_empty = empty.1 none in let not_empty = c.if-is_empty.false in cc) ∙ ap (λ (n : ℕ). Err (RowsLeft n)) (sym (c.line_number-else-is_empty.ensures t h))
