-- The answers of the processes of a monitor for the streams of a trace (this project's own).
use Rattle.std.specs.Prelude.{List, [], ◌∷◌}
use Rattle.physical_stream.specs.Cycles.{Cycle, StreamTrace}
use Rattle.watch_text.specs.Statements.{PlainWatch}
use Rattle.monitor_bench.specs.Meaning.{Process, place_of, processes_of, report_of}
use Rattle.trace_watch.specs.declared.watched.StreamWatched.{StreamWatched}

-- the answer of a process for these cycles of its stream
abbrev pub watched_by : Process → List Cycle → StreamWatched
watched_by process cycles = record { place = place_of process cycles; report = report_of process cycles }

-- the answers of these processes, each for its stream
abbrev pub watched_by_each : List Process → List StreamTrace → List StreamWatched
watched_by_each [] streams = []
watched_by_each (process ∷ processes) [] = []
watched_by_each (process ∷ processes) (s ∷ streams) = watched_by process s.cycles ∷ watched_by_each processes streams

-- the answers of a monitor for streams
abbrev pub watched_of : PlainWatch → List StreamTrace → List StreamWatched
watched_of watch streams = watched_by_each (processes_of watch) streams
