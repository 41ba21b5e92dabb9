-- The trace of a bench under a run (this project's own): a row for each cycle and stream, by the meaning of the bench.
use Rattle.std.specs.Prelude.{ℕ, zero, suc, false, Bool, List, [], ◌∷◌, map, get_or}
use Rattle.std.specs.List.{flat_map}
use Rattle.physical_stream.specs.Cycles.{Cycle, StreamTrace}
use Rattle.physical_stream.specs.declared.head.Head.{Head}
use Rattle.cycle_trace.specs.Spelling.{trace_text}
use Rattle.cycle_trace.specs.Trace.{TraceText}
use Rattle.cycle_trace.specs.Version.{version_of}
use Rattle.vhdl_text.specs.declared.bench.Bench.{Bench}
use Rattle.vhdl_meaning.specs.Meaning.{Edge, Moment, cycle_at, meaning}
use Rattle.vhdl_meaning.specs.declared.run.SimRun.{SimRun}

-- the inputs of the bench in the cycle of this number
abbrev pub edge_at : SimRun → ℕ → Edge
edge_at run number = record { ready = map (λ (bits : List Bool). get_or bits number false) run.ready; order = get_or run.orders number [] }

-- the inputs of so many cycles, from the cycle of this number on
abbrev pub edges_from : SimRun → (number many : ℕ) → List Edge
edges_from run number zero = []
edges_from run number (suc many) = edge_at run number ∷ edges_from run (suc number) many

-- the inputs of all cycles of a run
abbrev pub edges_of : SimRun → List Edge
edges_of run = edges_from run 0 run.cycles

-- the rows of one cycle: one for each stream, of which the first has this number
abbrev pub cycles_from : ℕ → List Head → Moment → List Cycle
cycles_from stream [] moment = []
cycles_from stream (head ∷ heads) moment = cycle_at head.params stream moment ∷ cycles_from (suc stream) heads moment

-- the rows of cycles, by cycle and then by stream
abbrev pub rows_in : List Head → List Moment → List Cycle
rows_in heads moments = flat_map (cycles_from 0 heads) moments

-- the rows of a bench under a run
abbrev pub rows_of : Bench → SimRun → List Cycle
rows_of bench run = rows_in bench.heads (meaning bench (edges_of run))

-- the trace of a bench under a run
abbrev pub trace_of : Bench → SimRun → TraceText
trace_of bench run = record { cycles = run.cycles; heads = bench.heads; rows = rows_of bench run }

-- the text of that trace: in version 1 where each level has one number, else in version 2
abbrev pub trace_text_of : Bench → SimRun → List ℕ
trace_text_of bench run = trace_text (version_of bench.heads) (trace_of bench run)

-- the streams of that trace, of which the first has this number: each shows its signals in the meaning of the bench
abbrev pub streams_from : ℕ → List Head → List Moment → List StreamTrace
streams_from stream [] moments = []
streams_from stream (head ∷ heads) moments = record { params = head.params; cycles = map (cycle_at head.params stream) moments } ∷ streams_from (suc stream) heads moments
