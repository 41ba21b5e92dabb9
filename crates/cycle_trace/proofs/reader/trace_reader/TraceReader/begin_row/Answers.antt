use Rattle.std.proofs.Common.{◌≡◌, ◌∙◌, ◌<◌, ℕ, List, [], ◌∷◌, ◌++◌, length, append-nil, refl, sym, ap, subst, arith}
use Rattle.tydi_base.proofs.TestLemmas.{empty_is, some_is_not}
use Rattle.cycle_trace.specs.Beginnings.{Fails}
use Rattle.cycle_trace.specs.ReaderView.{HoldsLine, StandsAt, StandsFor}
use Rattle.cycle_trace.specs.declared.fault.TraceFault.TheVariants.{RowsLeft}
use Rattle.cycle_trace.specs.declared.reader.text.Stage.{Stage}
use Rattle.cycle_trace.proofs.BeginningLemmas.{left-more}
use Rattle.cycle_trace.proofs.ReaderLemmas.{StandsAt-more}
use Rattle.cycle_trace.proofs.RowsReadLemmas.{all_read}
use Rattle.cycle_trace.proofs.reader.trace_reader.TraceReader.begin_row.Goals as goal

pub returns-then-is_empty-clause-stands : goal.returns-then-is_empty-clause-stands
returns-then-is_empty-clause-stands g c bytes stands =
    subst (StandsFor g.K.RowSink.stands_for c.args.self.now) (sym (append-nil bytes) ∙ ap (λ (rest : List ℕ). bytes ++ rest) (sym (empty_is c.args.rest.now c.if-is_empty.ensures))) stands

pub line_number-number-requires : goal.line_number-number-requires
line_number-number-requires g c =
    let old = c.args.self.now in
    let h = subst (λ (s : Stage). StandsAt g.K.RowSink.stands_for old.sink old.text s c.requires.stands.1.0 c.requires.stands.0) c.requires.rows c.requires.stands.1.1.1 in
    (h.0, h.1.2)

pub returns-then-is_whole-clause-stands : goal.returns-then-is_whole-clause-stands
returns-then-is_whole-clause-stands g c bytes stands =
    let old = c.args.self.now in
    let h = subst (λ (s : Stage). StandsAt g.K.RowSink.stands_for old.sink old.text s stands.0 bytes) c.requires.rows stands.1.1 in
    let t = h.0 in
    let reads = h.1.2 in
    let all = all_read old.text.rows t reads (c.if-is_whole.ensures.0 refl) in
    let some : 0 < length c.args.rest.now = some_bytes c.args.rest.now (some_is_not c.args.rest.now c.if-is_empty.ensures) in
    (stands.0, (tt, subst (λ (n : ℕ). Fails (bytes ++ c.args.rest.now) (RowsLeft n)) (sym (c.line_number-number.ensures t reads)) (left-more t all bytes stands.0 c.args.rest.now h.1.3 some)))
  where
    some_bytes : (text : List ℕ) → (text ≡ [] → ⊥) → 0 < length text
    some_bytes [] none = absurd (none refl)
    some_bytes (byte ∷ text) none = omega arith

pub go_on-requires : goal.go_on-requires
go_on-requires g c =
    let old = c.args.self.now in
    let begun = subst (λ (s : Stage). HoldsLine s old.text.rows.room old.line c.requires.stands.1.0) c.requires.rows c.requires.stands.1.1.0 in
    (c.requires.stands.1.0, begun.0)

pub returns-clause-stands : goal.returns-clause-stands
returns-clause-stands g c bytes stands =
    let old = c.args.self.now in
    let begun = subst (λ (s : Stage). HoldsLine s old.text.rows.room old.line stands.0) c.requires.rows stands.1.0 in
    let holds : HoldsLine old.text.stage old.text.rows.room c.go_on.new.self (stands.0 ++ c.args.rest.now) =
    subst (λ (s : Stage). HoldsLine s old.text.rows.room c.go_on.new.self (stands.0 ++ c.args.rest.now)) (sym c.requires.rows) (c.go_on.ensures.line stands.0 begun.0, c.go_on.ensures.room ∙ begun.1) in
    (stands.0 ++ c.args.rest.now, (holds, StandsAt-more g.K.RowSink.stands_for old.sink old.text old.text.stage stands.0 bytes c.args.rest.now c.requires.plain stands.1.1))
