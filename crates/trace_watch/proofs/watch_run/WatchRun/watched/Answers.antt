use Rattle.std.proofs.Common.{◌<◌, ◌≤◌, length, arith}
use Rattle.cycle_trace.specs.Trace.{cycles_of_stream}
use Rattle.watch_text.specs.Statements.{plain_watch}
use Rattle.trace_watch.proofs.RunLemmas.{watched-all, watched-more}
use Rattle.trace_watch.proofs.watch_run.WatchRun.watched.Goals as goal

pub streams-preserved : goal.streams-preserved
streams-preserved c t runs =
    let watch = plain_watch c.args.watch.now in
    let within : c.streams.stream < length c.args.watch.now.heads = omega (arith, c.streams-test.true, c.len-stream-end.ensures) in
    watched-more watch t c.args.self.now runs c.streams.stream c.streams.found c.push.new.self c.watched_at.result within
    (λ process is. c.watched_at.ensures watch (cycles_of_stream t) process runs.after is) (c.streams.invariant t runs) c.in_ok-push.ensures.ok

pub returns : goal.returns
returns c t runs =
    let end : length c.args.watch.now.heads ≤ c.streams.stream = omega (arith, c.streams-test.false, c.len-stream-end.ensures) in
    watched-all (plain_watch c.args.watch.now) t c.args.self.now runs c.streams.stream c.streams.found end (c.streams.invariant t runs)
