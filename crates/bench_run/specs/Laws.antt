-- The laws of the trace of a bench (this project's own).
use Rattle.std.specs.Prelude.{◌≡◌, Ok}
use Rattle.cycle_trace.specs.Trace.{IsTrace, streams_of}
use Rattle.cycle_trace.specs.TraceText as reading
use Rattle.vhdl_text.specs.WellFormed.{IsWellFormed}
use Rattle.vhdl_text.specs.declared.bench.Bench.{Bench}
use Rattle.vhdl_meaning.specs.Meaning.{meaning}
use Rattle.vhdl_meaning.specs.RunLaws.{FitsBench}
use Rattle.vhdl_meaning.specs.declared.run.SimRun.{SimRun}
use Rattle.bench_run.specs.Traces.{edges_of, streams_from, trace_of, trace_text_of}

-- a trace of a bench under a run: its text is read as that trace, and each stream shows its signals in the meaning of the bench
pub record IsTraceOf (bench : Bench) (run : SimRun) : Type 0 where
  pub is_trace : IsTrace (trace_of bench run)
  pub read : reading.trace_of (trace_text_of bench run) ≡ Ok (trace_of bench run)
  pub streams : streams_of (trace_of bench run) ≡ streams_from 0 bench.heads (meaning bench (edges_of run))

-- a well-formed bench and a run that fits it make such a trace
abbrev pub BenchesMakeTraces : Type 0
BenchesMakeTraces = (bench : Bench) (run : SimRun) → IsWellFormed bench → FitsBench bench run → IsTraceOf bench run

-- two runs of the same cycles and ready bits make the same text, whatever their orders are
abbrev pub TextsAreConfluent : Type 0
TextsAreConfluent = (bench : Bench) (one other : SimRun) → IsWellFormed bench → FitsBench bench one → FitsBench bench other →
    one.cycles ≡ other.cycles → one.ready ≡ other.ready → trace_text_of bench one ≡ trace_text_of bench other
