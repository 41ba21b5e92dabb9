use Rattle.std.proofs.Common.{◌∙◌, ◌+◌, ◌++◌, ◌∷◌, [], List, length, sym, subst, arith}
use Rattle.std.proofs.lemmas.Result.{err_from_is_err_and}
use Rattle.physical_stream.specs.declared.head.Head.{Head}
use Rattle.cycle_trace.specs.Beginnings.{OpensWith, begun}
use Rattle.cycle_trace.specs.ReaderView.{StandsAt}
use Rattle.cycle_trace.specs.declared.reader.text.Stage.{Stage}
use Rattle.cycle_trace.proofs.BeginningLemmas.{head-fails, head-ok, header-many, header-ok, heads-stand}
use Rattle.cycle_trace.specs.HeaderText.{head_after}
use Rattle.cycle_trace.proofs.HeadsSpelling.{head_after-some, in_header-some}
use Rattle.cycle_trace.proofs.ReaderLemmas.{plain-none}
use Rattle.cycle_trace.proofs.reader.lines.after_head.Goals as goal

pub returns-in_err-head-clause-stands : goal.returns-in_err-head-clause-stands
returns-in_err-head-clause-stands g c bytes stands =
    let text = c.args.text.now in
    let h = subst (λ (s : Stage). StandsAt g.K.RowSink.stands_for c.args.sink.now text s c.args.line.now bytes) c.requires.heads stands in
    let p = err_from_is_err_and c.from_residual.result c.from_residual.ensures.1 in
    let wrong = rw c.len.ensures at (c.in_err-head.ensures.gives h.2.paths h.2.told (h.2.many ∙ sym c.len.ensures)) in
    rw (p.1, p.2) (head-fails bytes c.args.line.now h.1 text.version text.cycles text.heads text.paths h.2 c.in_err-head.field-0.0 (sym c.is_head_line.ensures ∙ c.if-is_head_line.true) wrong)

pub returns-then-is_head_line-clause-stands : goal.returns-then-is_head_line-clause-stands
returns-then-is_head_line-clause-stands g c bytes stands =
    let text = c.args.text.now in
    let h = subst (λ (s : Stage). StandsAt g.K.RowSink.stands_for c.args.sink.now text s c.args.line.now bytes) c.requires.heads stands in
    let read = rw c.len.ensures at (c.in_ok-head.ensures.gives h.2.paths h.2.told (h.2.many ∙ sym c.len.ensures)) in
    let room = (head_after-some text.version h.2.paths c.args.line.now c.in_ok-head.head (in_header-some (3 + length text.heads) (head_after text.version h.2.paths c.args.line.now) c.in_ok-head.head read)).room in
    let opens = head-ok bytes c.args.line.now h.1 text.version text.cycles text.heads text.paths h.2 c.in_ok-head.head c.next_head.new.paths (sym c.is_head_line.ensures ∙ c.if-is_head_line.true) (omega (arith, h.2.many, room)) read c.in_ok-head.ensures.added in
    subst (λ (s : Stage). StandsAt g.K.RowSink.stands_for c.args.sink.now (record { stage = text.stage; version = text.version; cycles = text.cycles; heads = c.push.new.self; paths = c.next_head.new.paths; rows = text.rows }) s [] (bytes ++ 10 ∷ [])) (sym c.requires.heads)
    (h.0, plain-none, subst (λ (heads : List Head). OpensWith (bytes ++ 10 ∷ []) [] text.version text.cycles heads c.next_head.new.paths) (sym c.in_ok-push.ensures.ok) opens)

pub returns-then-text-gt-MOST_CYCLES-clause-stands : goal.returns-then-text-gt-MOST_CYCLES-clause-stands
returns-then-text-gt-MOST_CYCLES-clause-stands g c bytes stands =
    let text = c.args.text.now in
    let h = subst (λ (s : Stage). StandsAt g.K.RowSink.stands_for c.args.sink.now text s c.args.line.now bytes) c.requires.heads stands in
    header-many bytes c.args.line.now h.1 text.version text.cycles text.heads text.paths h.2 (sym c.is_head_line.ensures ∙ c.if-is_head_line.false) c.if-text-gt-MOST_CYCLES.true

pub start_rows-requires-clause-streams : goal.start_rows-requires-clause-streams
start_rows-requires-clause-streams g c =
    let text = c.args.text.now in
    let h = subst (λ (s : Stage). StandsAt g.K.RowSink.stands_for c.args.sink.now text s c.args.line.now c.requires.stands.0) c.requires.heads c.requires.stands.1 in
    heads-stand c.requires.stands.0 c.args.line.now h.1 text.version text.cycles text.heads text.paths h.2 (sym c.is_head_line.ensures ∙ c.if-is_head_line.false)

pub returns-clause-stands : goal.returns-clause-stands
returns-clause-stands g c bytes stands =
    let text = c.args.text.now in
    let h = subst (λ (s : Stage). StandsAt g.K.RowSink.stands_for c.args.sink.now text s c.args.line.now bytes) c.requires.heads stands in
    let goes = header-ok bytes c.args.line.now h.1 text.version text.cycles text.heads text.paths h.2 (sym c.is_head_line.ensures ∙ c.if-is_head_line.false) c.if-text-gt-MOST_CYCLES.false in
    let started = c.in_ok-start_rows.ensures.ok in
    c.take_row.ensures.stands (begun text.cycles text.heads) bytes started.2 started.1 goes
