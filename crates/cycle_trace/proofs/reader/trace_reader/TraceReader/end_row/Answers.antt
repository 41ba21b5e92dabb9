use Rattle.std.proofs.Common.{◌∙◌, List, [], ◌++◌, ℕ, sym, subst}
use Rattle.cycle_trace.specs.LineBegun.{Begins}
use Rattle.cycle_trace.specs.ReaderView.{HoldsLine, Stands}
use Rattle.cycle_trace.specs.declared.reader.text.Stage.{Stage}
use Rattle.cycle_trace.proofs.BeginningLemmas.{GoesOn-line}
use Rattle.cycle_trace.proofs.ReaderLemmas.{StandsAt-more, holds_none, in_rows, not_long}
use Rattle.cycle_trace.proofs.reader.trace_reader.TraceReader.end_row.Goals as goal

pub take_row-requires-clause-stands : goal.take_row-requires-clause-stands
take_row-requires-clause-stands g c =
    let old = c.args.self.now in
    let h = in_rows g.K.RowSink.stands_for old.sink old.text c.requires.stands.1.0 c.requires.stands.0 c.requires.rows c.requires.stands.1.1.1 in
    (h.0, (h.1.0, h.1.2))

pub returns-then-is_empty-clause-stands : goal.returns-then-is_empty-clause-stands
returns-then-is_empty-clause-stands g c bytes st =
    let old = c.args.self.now in
    let front = c.args.front.now in
    let begun = subst (λ (s : Stage). HoldsLine s old.text.rows.room old.line st.0) c.requires.rows st.1.0 in
    let none = (c.is_empty.ensures st.0 begun.0).0 c.if-is_empty.true in
    let stands = subst (λ (line : List ℕ). Stands g.K.RowSink.stands_for old.sink old.text line bytes) none st.1.1 in
    let more = StandsAt-more g.K.RowSink.stands_for old.sink old.text old.text.stage [] bytes front c.requires.plain stands in
    let h = in_rows g.K.RowSink.stands_for old.sink old.text front (bytes ++ front) c.requires.rows more in
    let taken = c.take_row.ensures.stands h.0 (bytes ++ front) h.1.0 h.1.2 (GoesOn-line (bytes ++ front) front h.0 h.1.1 h.1.3) in
    let begins = subst (Begins old.line) none begun.0 in
    let text = c.take_row.new.text in
    ([], (holds_none text.stage text.rows.room old.line begins (not_long old.line begins) (λ rows. begun.1 ∙ sym c.take_row.ensures.room), taken))

pub go_on-requires : goal.go_on-requires
go_on-requires g c =
    let old = c.args.self.now in
    let st = c.requires.stands.1 in
    (st.0, (subst (λ (s : Stage). HoldsLine s old.text.rows.room old.line st.0) c.requires.rows st.1.0).0)

pub take_begun-requires-clause-stands : goal.take_begun-requires-clause-stands
take_begun-requires-clause-stands g c =
    let old = c.args.self.now in
    let bytes = c.requires.stands.0 in
    let st = c.requires.stands.1 in
    let front = c.args.front.now in
    let begun = subst (λ (s : Stage). HoldsLine s old.text.rows.room old.line st.0) c.requires.rows st.1.0 in
    let holds : HoldsLine old.text.stage old.text.rows.room c.go_on.new.self (st.0 ++ front) =
    subst (λ (s : Stage). HoldsLine s old.text.rows.room c.go_on.new.self (st.0 ++ front)) (sym c.requires.rows) (c.go_on.ensures.line st.0 begun.0, c.go_on.ensures.room ∙ begun.1) in
    (bytes ++ front, (st.0 ++ front, (holds, StandsAt-more g.K.RowSink.stands_for old.sink old.text old.text.stage st.0 bytes front c.requires.plain st.1.1)))

pub clear-requires : goal.clear-requires
clear-requires g c =
    let old = c.args.self.now in
    let st = c.requires.stands.1 in
    let begun = subst (λ (s : Stage). HoldsLine s old.text.rows.room old.line st.0) c.requires.rows st.1.0 in
    (st.0 ++ c.args.front.now, c.go_on.ensures.line st.0 begun.0)

pub returns-clause-stands : goal.returns-clause-stands
returns-clause-stands g c bytes st =
    let old = c.args.self.now in
    let front = c.args.front.now in
    let begun = subst (λ (s : Stage). HoldsLine s old.text.rows.room old.line st.0) c.requires.rows st.1.0 in
    let holds : HoldsLine old.text.stage old.text.rows.room c.go_on.new.self (st.0 ++ front) =
    subst (λ (s : Stage). HoldsLine s old.text.rows.room c.go_on.new.self (st.0 ++ front)) (sym c.requires.rows) (c.go_on.ensures.line st.0 begun.0, c.go_on.ensures.room ∙ begun.1) in
    let taken = c.take_begun.ensures.stands (bytes ++ front) (st.0 ++ front) holds (StandsAt-more g.K.RowSink.stands_for old.sink old.text old.text.stage st.0 bytes front c.requires.plain st.1.1) in
    let text = c.take_begun.new.text in
    ([], (holds_none text.stage text.rows.room c.clear.new.self c.clear.ensures.line c.clear.ensures.long (λ rows. c.clear.ensures.room ∙ c.go_on.ensures.room ∙ begun.1 ∙ sym c.take_begun.ensures.room), taken))
