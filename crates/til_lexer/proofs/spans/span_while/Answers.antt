use Rattle.std.proofs.Common.{sym, ap, ◌∙◌, arith}
use Rattle.tydi_base.specs.declared.place.Place.{Place}
use Rattle.til_lexer.proofs.PlaceLemmas.{near_after, offset_after}
use Rattle.til_lexer.proofs.SpanLemmas.{Passed, passed-byte, passed-line, passed-up_to, passed-whole}
use Rattle.til_lexer.proofs.spans.span_while.Goals as goal
use Rattle.til_lexer.proofs.spans.span_while.Goals.{in_default-via-in-Some+else-passes, in_default-via-in_default}

pub lines-preserved : goal.lines-preserved
lines-preserved g c =
    let inv = c.lines.invariant in
    let line = c.along-span.ensures in
    let byte = c.past-span.ensures in
    let near = near_after c.along-span.result.after c.in-Some.byte.now (record { line = rw line.after (omega arith); column = rw line.after (omega arith) }) in
    let offset = offset_after c.along-span.result.after c.in-Some.byte.now in
    let moved = ap (λ (p : Place). p.offset) line.after in
    let there = c.in-Some.ensures.lookup.3 in
    let within = there.0 in (
      inv.0,
      inv.1,
      inv.2,
      rw byte.counts (omega arith),
      rw (byte.after, byte.counts) (omega arith),
      rw byte.after near.line,
      rw byte.after near.column,
      λ test decides counts.
          passed-byte test c.args.place c.args.bytes.now c.along-span.result c.past-span.result c.in-Some.byte.now
          (passed-line test c.args.place c.args.bytes.now c.lines.span c.along-span.result c.in_line.result (inv.7 test decides counts) (counts _ _ c.in_line.ensures) line.counts line.after)
          there.0 (there.1 0) (sym c.if-passes.true ∙ decides _ _ c.passes.ensures) byte.counts byte.after,
    )

pub returns-in_default-clause-value : goal.returns-in_default-clause-value
returns-in_default-clause-value g c test decides counts =
    let line = c.along-span.ensures in
    let passed : Passed test c.args.place c.args.bytes.now c.along-span.result =
    passed-line test c.args.place c.args.bytes.now c.lines.span c.along-span.result c.in_line.result (c.lines.invariant.7 test decides counts) (counts _ _ c.in_line.ensures) line.counts line.after in
    elim c.in_default.branch [
      | in_default-via-in-Some+else-passes w ↦
          passed-up_to test c.args.place c.args.bytes.now c.along-span.result w.in-Some.byte.now passed w.in-Some.ensures.lookup.3.0 (w.in-Some.ensures.lookup.3.1 0)
          (sym w.if-passes.false ∙ decides _ _ w.passes.ensures)
      | in_default-via-in_default w ↦ passed-whole test c.args.place c.args.bytes.now c.along-span.result passed w.in_default.ensures.lookup.0
    ]
