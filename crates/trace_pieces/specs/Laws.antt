-- The laws of the rows of a port's runs (this project's own).
use Rattle.std.specs.Prelude.{◌≡◌, ℕ, ◌≤◌, true, List, length, map, slice_get, Some}
use Rattle.std.specs.List.{All}
use Rattle.physical_stream.specs.Params.{Parameters}
use Rattle.physical_stream.specs.Signals.{Shows}
use Rattle.physical_stream.specs.Cycles.{Cycle, StreamTrace}
use Rattle.physical_stream.specs.declared.head.Head.{Head}
use Rattle.handshake.specs.Rows as port
use Rattle.handshake.specs.Rows.{StreamRun}
use Rattle.handshake.specs.Run.{run_of}
use Rattle.cycle_trace.specs.Spelling.{rows_text}
use Rattle.cycle_trace.specs.Trace.{AreShown, IsTrace, TraceText, are_heads, most_cycles, owed, params_of_heads, streams_of}
use Rattle.trace_pieces.specs.Rows.{AreShownFrom, rows_from}

-- the text that is made row by row is that of the rows of a trace
abbrev pub RowsAreSpelled : Type 0
RowsAreSpelled = (streams : List Parameters) (cycles : ℕ) (rows : List Cycle) → length rows ≡ length (owed streams cycles) → rows_from streams 0 rows ≡ rows_text (owed streams cycles) rows

-- rows of a trace can be made into text from the first on
abbrev pub RowsCanBeMade : Type 0
RowsCanBeMade = (streams : List Parameters) (cycles : ℕ) (rows : List Cycle) → AreShown (owed streams cycles) rows → AreShownFrom streams 0 rows

-- the runs of the streams with these heads: each has a ready bit for each cycle, and its stream can show each of its transfers
pub record AreRunsOf (cycles : ℕ) (heads : List Head) (runs : List StreamRun) : Type 0 where
  pub params : params_of_heads heads ≡ map (λ (s : StreamRun). s.params) runs
  pub long : (i : ℕ) (s : StreamRun) → slice_get runs i ≡ Some s → length s.ready ≡ cycles
  pub shown : (i : ℕ) (s : StreamRun) → slice_get runs i ≡ Some s → All (Shows s.params) s.transfers

-- the trace whose rows are those of the runs
abbrev pub trace_of_runs : ℕ → List Head → List StreamRun → TraceText
trace_of_runs cycles heads runs = record { cycles = cycles; heads = heads; rows = port.rows_from runs 0 cycles }

-- one stream of that trace
abbrev pub stream_of_run : StreamRun → StreamTrace
stream_of_run s = record { params = s.params; cycles = run_of s.params s.transfers s.gaps s.ready }

-- these rows are a trace
abbrev pub RunsAreTraces : Type 0
RunsAreTraces = (cycles : ℕ) (heads : List Head) (runs : List StreamRun) → cycles ≤ most_cycles → are_heads heads ≡ true → AreRunsOf cycles heads runs → IsTrace (trace_of_runs cycles heads runs)

-- the cycles of each stream of the trace are its run
abbrev pub StreamsAreRuns : Type 0
StreamsAreRuns = (cycles : ℕ) (heads : List Head) (runs : List StreamRun) → AreRunsOf cycles heads runs → streams_of (trace_of_runs cycles heads runs) ≡ map stream_of_run runs
