-- The rows that a watcher stands for (this project's own). It serves the watcher, and no public clause.
use Rattle.std.specs.Prelude.{◌≡◌, ◌*◌, ◌≤◌, [], length, Option, Some, None}
use Rattle.cycle_trace.specs.Trace.{TraceText, cycles_of_stream, most_cycles}
use Rattle.trace_decode.specs.Outcome.{DifferFirst}
use Rattle.watch_text.specs.Statements.{PlainWatch, plain_watch}
use Rattle.monitor_bench.specs.Standing.{AreAfter}
use Rattle.trace_watch.specs.declared.watch_run.WatchRun.{WatchRun}
use Rattle.trace_watch.specs.declared.watcher.Watcher.{Watcher}
use Rattle.trace_watch.specs.declared.watcher.Stage.{Stage}
use Rattle.trace_watch.specs.declared.watcher.Stage.TheVariants as stages

-- no row was taken
pub record IsFresh (watch : PlainWatch) (run : WatchRun) : Type 0 where
  pub rows : run.rows ≡ 0
  pub after : AreAfter watch (λ stream. []) run.processes

-- the state kept of a header that is the monitor's, and the rows so far
pub record RunsOver (watch : PlainWatch) (t : TraceText) (run : WatchRun) : Type 0 where
  pub heads : t.heads ≡ watch.heads
  pub cycles : t.cycles ≤ most_cycles
  pub streams : length t.heads ≤ 65536
  pub rows : run.rows ≡ length t.rows
  pub most : length t.rows ≤ t.cycles * length t.heads
  pub after : AreAfter watch (cycles_of_stream t) run.processes

abbrev pub StageStands : PlainWatch → WatchRun → Stage → Option TraceText → Type 0
StageStands watch run stages.Fresh None = IsFresh watch run
StageStands watch run stages.Fresh (Some t) = ⊥
StageStands watch run (stages.Other place) None = ⊥
StageStands watch run (stages.Other place) (Some t) = DifferFirst t.heads watch.heads place
StageStands watch run stages.Rows None = ⊥
StageStands watch run stages.Rows (Some t) = RunsOver watch t run

-- the monitor that a watcher was made with
abbrev pub watch_in : Watcher → PlainWatch
watch_in watcher = plain_watch watcher.watch.now

-- a watcher stands for nothing, or for this header and the rows so far
abbrev pub WatcherStands : Watcher → Option TraceText → Type 0
WatcherStands watcher said = StageStands (watch_in watcher) watcher.run watcher.stage said
