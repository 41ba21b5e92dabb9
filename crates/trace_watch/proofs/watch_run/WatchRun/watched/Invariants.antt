use Rattle.std.proofs.Common.{◌≡◌, take}
use Rattle.cycle_trace.specs.Trace.{TraceText, streams_of}
use Rattle.watch_text.specs.Statements.{plain_watch}
use Rattle.trace_watch.specs.Standing.{RunsOver}
use Rattle.trace_watch.specs.Watched.{watched_of}
use Rattle.trace_watch.proofs.watch_run.WatchRun.watched.Given as goal

abbrev pub invariant-streams : goal.invariant-streams
invariant-streams l = (t : TraceText) → RunsOver (plain_watch l.watch) t l.self → l.found ≡ take l.stream (watched_of (plain_watch l.watch) (streams_of t))
