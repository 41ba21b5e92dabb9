use Rattle.std.proofs.Common.{◌≡◌, ◌∙◌, [], Some, Option, Ok, ap}
use Rattle.std.proofs.lemmas.Result.{err_from_is_err_and}
use Rattle.cycle_trace.specs.Trace.{TraceText}
use Rattle.cycle_trace.specs.TraceView.{trace_view}
use Rattle.cycle_trace.proofs.TraceSpelling.{trace_of-some}
use Rattle.cycle_trace.proofs.reader.read.Goals as goal

pub finish-requires : goal.finish-requires
finish-requires c = (c.args.text.now, c.feed.ensures.stands [] c.new-reader.ensures.stands)

pub returns-in_err-finish : goal.returns-in_err-finish
returns-in_err-finish c =
    let p = err_from_is_err_and c.from_residual-in_err-finish.result c.from_residual-in_err-finish.ensures.1 in
    rw (p.1, p.2) ((c.in_err-finish.ensures {u = tt}).finishes c.args.text.now (c.feed.ensures.stands [] c.new-reader.ensures.stands))

pub trace-requires : goal.trace-requires
trace-requires c =
    let read = (c.in_ok-finish.ensures {u = tt}).finishes c.args.text.now (c.feed.ensures.stands [] c.new-reader.ensures.stands) in
    (Some read.0, read.1.1)

pub returns : goal.returns
returns c =
    let read = (c.in_ok-finish.ensures {u = tt}).finishes c.args.text.now (c.feed.ensures.stands [] c.new-reader.ensures.stands) in
    let same : read.0 ≡ trace_view c.in-Some.trace = let e : ◌≡◌ {A = Option TraceText} (Some read.0) (Some (trace_view c.in-Some.trace)) = c.in-Some.ensures {u = tt} (Some read.0) read.1.1 in cc in
    read.1.0 ∙ ap (λ (t : TraceText). Ok t) same

pub unreachable-requires : goal.unreachable-requires
unreachable-requires c =
    let read = (c.in_ok-finish.ensures {u = tt}).finishes c.args.text.now (c.feed.ensures.stands [] c.new-reader.ensures.stands) in
    c.in-None.ensures {u = tt} (Some read.0) read.1.1 (trace_of-some c.args.text.now read.0 read.1.0).0
