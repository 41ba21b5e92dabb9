use Rattle.std.proofs.Common.{◌≡◌, ◌∙◌, ℕ, ◌+◌, ◌*◌, ◌≤◌, ◌<◌, length, Err, ap, sym, arith}
use Rattle.tydi_base.proofs.TestLemmas.{empty_is, some_is_not, empty_iff}
use Rattle.cycle_trace.specs.Beginnings.{begun}
use Rattle.cycle_trace.specs.Faults.{fault_in}
use Rattle.cycle_trace.specs.RowsText.{cut_row}
use Rattle.cycle_trace.specs.TraceText.{trace_of}
use Rattle.cycle_trace.specs.declared.fault.TraceFault.TheVariants.{BadHeader, RowsLeft}
use Rattle.cycle_trace.proofs.BeginningLemmas.{IsFault-told, cut_row-told, ends-in_header, header-cut, header-end, header-end_many, rows_on-cut_at, rows_on-end_at, rows_on-rest_at}
use Rattle.cycle_trace.proofs.reader.lines.end_of_header.Goals as goal

pub returns-then-is_head_line-clause-gives : goal.returns-then-is_head_line-clause-gives
returns-then-is_head_line-clause-gives c bytes h =
    header-cut bytes c.args.line.now c.requires.plain c.args.text.now.version c.args.text.now.cycles c.args.text.now.heads c.args.text.now.paths h (sym c.is_head_line.ensures ∙ c.if-is_head_line.true) ∙ ap (λ (n : ℕ). Err (BadHeader (3 + n))) (sym c.len.ensures)

pub returns-then-text-gt-MOST_CYCLES-clause-gives : goal.returns-then-text-gt-MOST_CYCLES-clause-gives
returns-then-text-gt-MOST_CYCLES-clause-gives c bytes h =
    header-end_many bytes c.args.line.now c.requires.plain c.args.text.now.version c.args.text.now.cycles c.args.text.now.heads c.args.text.now.paths h (sym c.is_head_line.ensures ∙ c.if-is_head_line.false) c.if-text-gt-MOST_CYCLES.true

pub returns-then-want-gt0-clause-gives : goal.returns-then-want-gt0-clause-gives
returns-then-want-gt0-clause-gives c bytes h =
    let text = c.args.text.now in
    let t = begun text.cycles text.heads in
    let some : 0 < text.cycles * length text.heads = rw c.len-2.ensures at c.if-want-gt0.true in
    let number : 3 + c.len.result ≡ 3 + length text.heads + 0 = omega (arith, c.len.ensures) in
    let same = c.cut_row.ensures.fault c.args.line.now (empty_iff c.args.line.now c.is_empty.result c.is_empty.ensures) ∙ ap (λ (n : ℕ). cut_row c.args.line.now (text.cycles * n) 0 (3 + c.len.result)) c.len-2.ensures ∙ ap (cut_row c.args.line.now (text.cycles * length text.heads) 0) number in
    IsFault-told (trace_of bytes) c.cut_row.result _ (ap fault_in same ∙ cut_row-told c.args.line.now _ _ _)
    (header-end bytes c.args.line.now c.requires.plain text.version text.cycles text.heads text.paths h (sym c.is_head_line.ensures ∙ c.if-is_head_line.false) c.if-text-gt-MOST_CYCLES.false ∙ rows_on-cut_at t c.args.line.now some)

pub returns-then-is_empty-clause-gives : goal.returns-then-is_empty-clause-gives
returns-then-is_empty-clause-gives c bytes h =
    let text = c.args.text.now in
    let all : text.cycles * length text.heads ≤ 0 = rw c.len-2.ensures at c.if-want-gt0.false in
    header-end bytes c.args.line.now c.requires.plain text.version text.cycles text.heads text.paths h (sym c.is_head_line.ensures ∙ c.if-is_head_line.false) c.if-text-gt-MOST_CYCLES.false
    ∙ rows_on-end_at (begun text.cycles text.heads) all c.args.line.now (empty_is c.args.line.now c.if-is_empty.ensures)

pub returns-else-is_empty-clause-gives : goal.returns-else-is_empty-clause-gives
returns-else-is_empty-clause-gives c bytes h =
    let text = c.args.text.now in
    let all : text.cycles * length text.heads ≤ 0 = rw c.len-2.ensures at c.if-want-gt0.false in
    let number : 3 + length text.heads + 0 ≡ 3 + c.len.result = omega (arith, c.len.ensures) in
    header-end bytes c.args.line.now c.requires.plain text.version text.cycles text.heads text.paths h (sym c.is_head_line.ensures ∙ c.if-is_head_line.false) c.if-text-gt-MOST_CYCLES.false
    ∙ rows_on-rest_at (begun text.cycles text.heads) all c.args.line.now (some_is_not c.args.line.now c.if-is_empty.ensures) ∙ ap (λ (n : ℕ). Err (RowsLeft n)) number

pub returns-then-is_empty-clause-ends : goal.returns-then-is_empty-clause-ends
returns-then-is_empty-clause-ends c bytes h =
    let text = c.args.text.now in
    let all : text.cycles * length text.heads ≤ 0 = rw c.len-2.ensures at c.if-want-gt0.false in
    ends-in_header bytes c.args.line.now c.requires.plain text.version text.cycles text.heads text.paths h (sym c.is_head_line.ensures ∙ c.if-is_head_line.false) c.if-text-gt-MOST_CYCLES.false (empty_is c.args.line.now c.if-is_empty.ensures) (omega (arith, all))
