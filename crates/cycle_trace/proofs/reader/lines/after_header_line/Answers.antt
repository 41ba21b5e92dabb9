use Rattle.std.proofs.Common.{refl, arith, []}
use Rattle.cycle_trace.specs.Beginnings.{heads_on}
use Rattle.cycle_trace.specs.HeaderText.{count_of_cycles, header_start_after, header_start_of, title_of}
use Rattle.cycle_trace.specs.declared.reader.text.HeaderPart.TheVariants as parts
use Rattle.cycle_trace.proofs.BeginningLemmas.{line-fails, line-ok}
use Rattle.cycle_trace.proofs.HeaderLemmas.{after_cycles, of_title}
use Rattle.cycle_trace.proofs.ReaderLemmas.{in_header, plain-none}
use Rattle.cycle_trace.proofs.reader.lines.after_header_line.Goals as goal

pub returns-in-Ok-clause-stands : goal.returns-in-Ok-clause-stands
returns-in-Ok-clause-stands g c bytes stands =
    let h = in_header g.K.RowSink.stands_for c.args.sink.now c.args.text.now c.args.line.now bytes c.args.part parts.Title c.requires.part c.in-Title.is stands in
    (h.0, plain-none, (record { heads = h.2.0.heads; paths = h.2.0.paths }, line-ok bytes c.args.line.now h.1 header_start_of h.2.1 1 (title_of c.args.line.now) header_start_after (of_title c.args.line.now) c.in-Ok.version c.in-Ok.ensures))

pub returns-in-Err-clause-stands : goal.returns-in-Err-clause-stands
returns-in-Err-clause-stands g c bytes stands =
    let h = in_header g.K.RowSink.stands_for c.args.sink.now c.args.text.now c.args.line.now bytes c.args.part parts.Title c.requires.part c.in-Title.is stands in
    line-fails bytes c.args.line.now h.1 header_start_of h.2.1 1 (title_of c.args.line.now) header_start_after (of_title c.args.line.now) c.in-Err.ensures

pub returns-in-Ok-read_cycles-clause-stands : goal.returns-in-Ok-read_cycles-clause-stands
returns-in-Ok-read_cycles-clause-stands g c bytes stands =
    let h = in_header g.K.RowSink.stands_for c.args.sink.now c.args.text.now c.args.line.now bytes c.args.part parts.Cycles c.requires.part c.in-Cycles.is stands in
    let cycles = c.in-Ok-read_cycles.cycles in
    let opens = line-ok bytes c.args.line.now h.1 (header_start_after c.args.text.now.version) h.2.1 2 (count_of_cycles c.args.line.now) (λ cycles. heads_on c.args.text.now.version cycles [] []) (after_cycles c.args.text.now.version c.args.line.now) cycles c.in-Ok-read_cycles.ensures in
    (h.0, plain-none, rw h.2.0.heads (record { paths = []; many = refl; few = omega arith; told = h.2.0.paths; opens = opens }))

pub returns-in-Err-read_cycles-clause-stands : goal.returns-in-Err-read_cycles-clause-stands
returns-in-Err-read_cycles-clause-stands g c bytes stands =
    let h = in_header g.K.RowSink.stands_for c.args.sink.now c.args.text.now c.args.line.now bytes c.args.part parts.Cycles c.requires.part c.in-Cycles.is stands in
    line-fails bytes c.args.line.now h.1 (header_start_after c.args.text.now.version) h.2.1 2 (count_of_cycles c.args.line.now) (λ cycles. heads_on c.args.text.now.version cycles [] []) (after_cycles c.args.text.now.version c.args.line.now) c.in-Err-read_cycles.ensures
