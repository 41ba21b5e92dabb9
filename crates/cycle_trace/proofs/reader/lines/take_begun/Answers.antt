use Rattle.std.proofs.Common.{List, ℕ, sym, subst}
use Rattle.cycle_trace.specs.ReaderView.{HoldsLine, Stands, StandsAt}
use Rattle.cycle_trace.specs.LineBegun.{IsLong}
use Rattle.cycle_trace.specs.declared.reader.text.Stage.{Stage}
use Rattle.cycle_trace.proofs.BeginningLemmas.{GoesOn-line}
use Rattle.cycle_trace.proofs.ReaderLemmas.{in_rows}
use Rattle.cycle_trace.proofs.reader.lines.take_begun.Goals as goal

pub take_row-requires-clause-stands : goal.take_row-requires-clause-stands
take_row-requires-clause-stands g c =
    let h = in_rows g.K.RowSink.stands_for c.args.sink.now c.args.text.now c.requires.stands.1.0 c.requires.stands.0 c.requires.rows c.requires.stands.1.1.1 in
    (h.0, (h.1.0, h.1.2))

pub returns-in-Ok-clause-stands : goal.returns-in-Ok-clause-stands
returns-in-Ok-clause-stands g c bytes line holds stands =
    let begun = subst (λ (s : Stage). HoldsLine s c.args.text.now.rows.room c.args.begun.now line) c.requires.rows holds in
    let h = in_rows g.K.RowSink.stands_for c.args.sink.now c.args.text.now c.in-Ok.line.now bytes c.requires.rows
    (subst (λ (l : List ℕ). Stands g.K.RowSink.stands_for c.args.sink.now c.args.text.now l bytes) (sym (c.in-Ok.ensures line begun.0)) stands) in
    c.take_row.ensures.stands h.0 bytes h.1.0 h.1.2 (GoesOn-line bytes c.in-Ok.line.now h.0 h.1.1 h.1.3)

pub long_fault-requires : goal.long_fault-requires
long_fault-requires g c =
    let st = c.requires.stands.1 in
    let h = subst (λ (s : Stage). StandsAt g.K.RowSink.stands_for c.args.sink.now c.args.text.now s st.0 c.requires.stands.0) c.requires.rows st.1.1 in
    (h.0, h.1.2)

pub returns-in-Err-clause-stands : goal.returns-in-Err-clause-stands
returns-in-Err-clause-stands g c bytes line holds stands =
    let begun = subst (λ (s : Stage). HoldsLine s c.args.text.now.rows.room c.args.begun.now line) c.requires.rows holds in
    let h = subst (λ (s : Stage). StandsAt g.K.RowSink.stands_for c.args.sink.now c.args.text.now s line bytes) c.requires.rows stands in
    let long = subst (λ (room : ℕ). IsLong c.in-Err.form room line) begun.1 (c.in-Err.ensures line begun.0) in
    c.long_fault.ensures.fails h.0 bytes line h.1.2 (GoesOn-line bytes line h.0 h.1.1 h.1.3) long

pub returns-in-Err-clause-calm : goal.returns-in-Err-clause-calm
returns-in-Err-clause-calm g c fixed past =
    let st = c.requires.stands.1 in
    let begun = subst (λ (s : Stage). HoldsLine s c.args.text.now.rows.room c.args.begun.now st.0) c.requires.rows st.1.0 in
    let long = c.in-Err.ensures st.0 begun.0 in
    c.long_fault.ensures.calm st.0 long.form_is
