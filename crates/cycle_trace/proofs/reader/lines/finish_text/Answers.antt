use Rattle.std.proofs.Common.{◌∙◌, inl, inr, ap, subst}
use Rattle.cycle_trace.specs.ReaderView.{HoldsLine, StandsAt}
use Rattle.cycle_trace.specs.declared.reader.text.Stage.{Stage}
use Rattle.cycle_trace.specs.declared.reader.text.Stage.TheVariants as stages
use Rattle.cycle_trace.specs.declared.fault.TraceFault.{TraceFault}
use Rattle.cycle_trace.proofs.BeginningLemmas.{Fails-end, GoesOn-end}
use Rattle.cycle_trace.proofs.ReaderLemmas.{not_memory}
use Rattle.cycle_trace.proofs.reader.lines.finish_text.Goals as goal

pub returns-in-Rows-clause-finishes : goal.returns-in-Rows-clause-finishes
returns-in-Rows-clause-finishes g c bytes line holds stands =
    let h = subst (λ (s : Stage). StandsAt g.K.RowSink.stands_for c.args.sink c.args.text s line bytes) c.in-Rows.is stands in
    let begun = subst (λ (s : Stage). HoldsLine s c.args.text.rows.room c.args.line.now line) c.in-Rows.is holds in
    c.finish_rows.ensures.finishes h.0 bytes line h.1.0 h.1.2 (c.is_empty.ensures line begun.0) (GoesOn-end bytes line h.0 h.1.1 h.1.3)

pub returns-in-Rows-clause-memory : goal.returns-in-Rows-clause-memory
returns-in-Rows-clause-memory g c bytes line holds stands is = absurd (not_memory c.finish_rows.result c.finish_rows.ensures.calm is)

pub returns-in-Failed-clause-finishes : goal.returns-in-Failed-clause-finishes
returns-in-Failed-clause-finishes g c bytes line holds stands =
    let h = subst (λ (s : Stage). StandsAt g.K.RowSink.stands_for c.args.sink c.args.text s line bytes) c.in-Failed.is stands in Fails-end bytes c.in-Failed.fault h

pub returns-in-Failed-clause-memory : goal.returns-in-Failed-clause-memory
returns-in-Failed-clause-memory g c bytes line holds stands is = inl (c.in-Failed.is ∙ ap (λ (fault : TraceFault). stages.Failed fault) cc)

pub header_line-requires : goal.header_line-requires
header_line-requires g c =
    let holds = c.requires.1.1.0 in
    (subst (λ (s : Stage). HoldsLine s c.args.text.rows.room c.args.line.now c.requires.1.0) c.in-Header.is holds).1

pub finish_header-requires : goal.finish_header-requires
finish_header-requires g c =
    let bytes = c.requires.0 in
    let line = c.requires.1.0 in
    let h = subst (λ (s : Stage). StandsAt g.K.RowSink.stands_for c.args.sink c.args.text s line bytes) c.in-Header.is c.requires.1.1.1 in
    let begun = subst (λ (s : Stage). HoldsLine s c.args.text.rows.room c.args.line.now line) c.in-Header.is c.requires.1.1.0 in
    let same = c.header_line.ensures line begun.0 in
    rw same (record { fresh = h.0; opens = (bytes, h.2); plain = h.1 })

pub returns-in-Header-clause-finishes : goal.returns-in-Header-clause-finishes
returns-in-Header-clause-finishes g c bytes line holds stands =
    let h = subst (λ (s : Stage). StandsAt g.K.RowSink.stands_for c.args.sink c.args.text s line bytes) c.in-Header.is stands in
    let begun = subst (λ (s : Stage). HoldsLine s c.args.text.rows.room c.args.line.now line) c.in-Header.is holds in
    c.finish_header.ensures.finishes bytes (rw (c.header_line.ensures line begun.0) h.2)

pub returns-in-Header-clause-memory : goal.returns-in-Header-clause-memory
returns-in-Header-clause-memory g c bytes line holds stands is =
    let h = subst (λ (s : Stage). StandsAt g.K.RowSink.stands_for c.args.sink c.args.text s line bytes) c.in-Header.is stands in
    let begun = subst (λ (s : Stage). HoldsLine s c.args.text.rows.room c.args.line.now line) c.in-Header.is holds in
    inr (c.finish_header.ensures.memory bytes (rw (c.header_line.ensures line begun.0) h.2) is)
