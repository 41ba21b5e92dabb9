use Rattle.std.proofs.Common.{◌∙◌, ℕ, ◌+◌, length, Ok, Err, refl, ap, sym, arith}
use Rattle.std.proofs.lemmas.Result.{err_from_is_err_and}
use Rattle.physical_stream.specs.Cycles.{cycle_in}
use Rattle.cycle_trace.specs.RowSink.{with_row}
use Rattle.cycle_trace.specs.declared.fault.TraceFault.TheVariants.{RowsLeft}
use Rattle.cycle_trace.proofs.BeginningLemmas.{left-fails, row-fails, row-ok}
use Rattle.cycle_trace.proofs.RowsReadLemmas.{all_read, can_take, less_of, not_whole, stream_in, turn_params}
use Rattle.cycle_trace.proofs.reader.lines.after_row.Goals as goal

pub returns-then-is_whole-clause-stands : goal.returns-then-is_whole-clause-stands
returns-then-is_whole-clause-stands g c t bytes stands h goes more =
    left-fails t (all_read c.args.rows.now t h (c.if-is_whole.ensures.0 refl)) bytes c.args.line.now goes more ∙ ap (λ (n : ℕ). Err (RowsLeft n)) (sym (c.line_number.ensures t h))

pub returns-in_err-bits-clause-stands : goal.returns-in_err-bits-clause-stands
returns-in_err-bits-clause-stands g c t bytes stands h goes =
    let p = err_from_is_err_and c.from_residual.result c.from_residual.ensures.1 in
    let turn = turn_params c.args.rows.now t h (less_of c.args.rows.now t h (not_whole _ c.if-is_whole.ensures)) in
    rw (p.1, p.2) (row-fails t turn.0 turn.1 bytes c.args.line.now c.in_err-bits.field-0.0 goes (c.in_err-bits.ensures.gives t turn.0 h turn.1))

pub row-requires : goal.row-requires
row-requires g c =
    let t = c.requires.0 in
    let h = c.requires.1.1 in
    let less = less_of c.args.rows.now t h (not_whole _ c.if-is_whole.ensures) in
    stream_in c.read_row.new.self t (c.read_row.ensures.reads t h) (omega (arith, less, c.read_row.ensures.whole.0, c.read_row.ensures.whole.1))

pub row-requires-2 : goal.row-requires-2
row-requires-2 g c =
    let t = c.requires.0 in
    let h = c.requires.1.1 in
    let turn = turn_params c.args.rows.now t h (less_of c.args.rows.now t h (not_whole _ c.if-is_whole.ensures)) in
    let read = c.in_ok-bits.ensures.gives t turn.0 h turn.1 ∙ ap Ok (sym c.row.ensures) in
    (t, (c.requires.1.0, can_take t (3 + length t.heads + length t.rows) turn.0 c.args.line.now (cycle_in c.row.result) turn.1 read))

pub advance-requires : goal.advance-requires
advance-requires g c =
    let t = c.requires.0 in
    let h = c.requires.1.1 in
    let turn = turn_params c.args.rows.now t h (less_of c.args.rows.now t h (not_whole _ c.if-is_whole.ensures)) in
    let read = c.in_ok-bits.ensures.gives t turn.0 h turn.1 ∙ ap Ok (sym c.row.ensures) in
    (t, (cycle_in c.row.result, (c.read_row.ensures.reads t h, can_take t (3 + length t.heads + length t.rows) turn.0 c.args.line.now (cycle_in c.row.result) turn.1 read)))

pub returns-clause-stands : goal.returns-clause-stands
returns-clause-stands g c t bytes stands h goes =
    let turn = turn_params c.args.rows.now t h (less_of c.args.rows.now t h (not_whole _ c.if-is_whole.ensures)) in
    let read = c.in_ok-bits.ensures.gives t turn.0 h turn.1 ∙ ap Ok (sym c.row.ensures) in
    let can = can_take t (3 + length t.heads + length t.rows) turn.0 c.args.line.now (cycle_in c.row.result) turn.1 read in (
      with_row t (cycle_in c.row.result),
      (
        c.in_ok-row.ensures.taken t stands can,
        c.advance.ensures.reads t (cycle_in c.row.result) (c.read_row.ensures.reads t h) can,
        row-ok t turn.0 turn.1 bytes c.args.line.now (cycle_in c.row.result) goes read,
      ),
    )
