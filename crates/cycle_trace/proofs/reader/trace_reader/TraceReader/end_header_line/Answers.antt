use Rattle.std.proofs.Common.{◌∙◌, not, List, [], ◌++◌, ℕ, ap, sym, subst}
use Rattle.tydi_base.proofs.TestLemmas.{on_ok_is}
use Rattle.cycle_trace.specs.ReaderView.{HoldsLine, Stands}
use Rattle.cycle_trace.specs.declared.reader.text.Stage.{Stage}
use Rattle.cycle_trace.proofs.ReaderLemmas.{StandsAt-more, holds_none, not_long}
use Rattle.cycle_trace.proofs.reader.trace_reader.TraceReader.end_header_line.Goals as goal

pub take_header_line-requires-clause-stands : goal.take_header_line-requires-clause-stands
take_header_line-requires-clause-stands g c =
    let old = c.args.self.now in
    let bytes = c.requires.stands.0 in
    let st = c.requires.stands.1 in
    let front = c.args.front.now in
    let begun = subst (λ (s : Stage). HoldsLine s old.text.rows.room old.line st.0) c.requires.part st.1.0 in
    let extended = on_ok_is c.extend.result _ (c.is_err.ensures.negation ∙ ap not c.if-is_err.false) (c.extend.ensures.line st.0 begun.0) in (
      bytes ++ front,
      subst (λ (line : List ℕ). Stands g.K.RowSink.stands_for old.sink old.text line (bytes ++ front)) (sym (c.header_line.ensures (st.0 ++ front) extended))
          (StandsAt-more g.K.RowSink.stands_for old.sink old.text old.text.stage st.0 bytes front c.requires.plain st.1.1),
    )

pub returns-else-is_err-2-clause-stands : goal.returns-else-is_err-2-clause-stands
returns-else-is_err-2-clause-stands g c bytes st =
    let old = c.args.self.now in
    let front = c.args.front.now in
    let begun = subst (λ (s : Stage). HoldsLine s old.text.rows.room old.line st.0) c.requires.part st.1.0 in
    let extended = on_ok_is c.extend.result _ (c.is_err.ensures.negation ∙ ap not c.if-is_err.false) (c.extend.ensures.line st.0 begun.0) in
    let taken = c.take_header_line.ensures.stands (bytes ++ front) (subst (λ (line : List ℕ). Stands g.K.RowSink.stands_for old.sink old.text line (bytes ++ front)) (sym (c.header_line.ensures (st.0 ++ front) extended))
    (StandsAt-more g.K.RowSink.stands_for old.sink old.text old.text.stage st.0 bytes front c.requires.plain st.1.1)) in
    let made = on_ok_is c.make_room.result _ (c.is_err-in-Rows.ensures.negation ∙ ap not c.if-is_err-2.false) c.make_room.ensures in
    let text = c.take_header_line.new.text in
    ([], (holds_none text.stage text.rows.room c.make_room.new.self made.0 (not_long c.make_room.new.self made.0) (λ rows. made.1), taken))

pub returns-in_default-clause-stands : goal.returns-in_default-clause-stands
returns-in_default-clause-stands g c bytes st =
    let old = c.args.self.now in
    let front = c.args.front.now in
    let begun = subst (λ (s : Stage). HoldsLine s old.text.rows.room old.line st.0) c.requires.part st.1.0 in
    let extended = on_ok_is c.extend.result _ (c.is_err.ensures.negation ∙ ap not c.if-is_err.false) (c.extend.ensures.line st.0 begun.0) in
    let taken = c.take_header_line.ensures.stands (bytes ++ front) (subst (λ (line : List ℕ). Stands g.K.RowSink.stands_for old.sink old.text line (bytes ++ front)) (sym (c.header_line.ensures (st.0 ++ front) extended))
    (StandsAt-more g.K.RowSink.stands_for old.sink old.text old.text.stage st.0 bytes front c.requires.plain st.1.1)) in
    let text = c.take_header_line.new.text in
    ([], (holds_none text.stage text.rows.room c.clear.new.self c.clear.ensures.line c.clear.ensures.long (λ rows. absurd (c.in_default.not-Rows rows)), taken))
