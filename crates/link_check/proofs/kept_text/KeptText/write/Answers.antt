use Rattle.physical_stream.specs.Cycles.{cycle_in}
use Rattle.cycle_trace.specs.RowSink.{with_row}
use Rattle.link_check.specs.KeptTexts.{text_so_far}
use Rattle.link_check.proofs.KeptTextLemmas.{IsKept-over, IsKept-within, got, longer, no-past, over-stays, row-shows, text-grows}
use Rattle.link_check.proofs.kept_text.KeptText.write.Goals as goal

pub returns-then-self-clause-text : goal.returns-then-self-clause-text
returns-then-self-clause-text c t stands can =
    IsKept-over c.args.self.now.over c.args.self.now.text (text_so_far (with_row t (cycle_in c.args.row))) c.if-self.true (over-stays c.args.self.now t (cycle_in c.args.row) stands can c.if-self.true)

pub returns-in_default-clause-text : goal.returns-in_default-clause-text
returns-in_default-clause-text c t stands can = absurd (no-past c.args.self.now t (cycle_in c.args.row) stands can c.as_slice.result.now c.as_slice.ensures c.in_default.ensures.lookup.3)

pub write_row-requires : goal.write_row-requires
write_row-requires c =
    let here = got c.args.self.now c.as_slice.result.now c.in-Some.head.now c.as_slice.ensures c.in-Some.ensures.lookup.3.0 c.in-Some.ensures.lookup.1 in
    record { shown = row-shows c.args.self.now c.requires.0 (cycle_in c.args.row) c.requires.1.0 c.requires.1.1 c.in-Some.head.now here }

pub returns-then-len-gt-MOST_KEPT-clause-text : goal.returns-then-len-gt-MOST_KEPT-clause-text
returns-then-len-gt-MOST_KEPT-clause-text c t stands can =
    let here = got c.args.self.now c.as_slice.result.now c.in-Some.head.now c.as_slice.ensures c.in-Some.ensures.lookup.3.0 c.in-Some.ensures.lookup.1 in
    longer c.write_row.new.out (text_so_far (with_row t (cycle_in c.args.row))) c.len.result c.len.ensures c.if-len-gt-MOST_KEPT.true
    (text-grows c.args.self.now t (cycle_in c.args.row) stands can c.in-Some.head.now here c.if-self.false c.write_row.new.out c.in_ok-write_row.ensures.ok)

pub returns-else-len-gt-MOST_KEPT-clause-text : goal.returns-else-len-gt-MOST_KEPT-clause-text
returns-else-len-gt-MOST_KEPT-clause-text c t stands can =
    let here = got c.args.self.now c.as_slice.result.now c.in-Some.head.now c.as_slice.ensures c.in-Some.ensures.lookup.3.0 c.in-Some.ensures.lookup.1 in
    IsKept-within c.args.self.now.over c.write_row.new.out (text_so_far (with_row t (cycle_in c.args.row))) c.len.result c.if-self.false c.len.ensures c.if-len-gt-MOST_KEPT.false
    (text-grows c.args.self.now t (cycle_in c.args.row) stands can c.in-Some.head.now here c.if-self.false c.write_row.new.out c.in_ok-write_row.ensures.ok)
