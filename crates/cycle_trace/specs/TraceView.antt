-- A trace, apart from where it lies in memory (this project's own).
use Rattle.std.specs.Prelude.{ℕ, IfSome, slice_get}
use Rattle.physical_stream.specs.Signals.{Shows}
use Rattle.physical_stream.specs.Cycles.{Cycle}
use Rattle.cycle_trace.specs.Trace.{TraceText, text_of}
use Rattle.cycle_trace.specs.declared.trace.Trace.{Trace}

-- the plain data of a trace
abbrev pub trace_view : Trace → TraceText
trace_view trace = text_of trace.header trace.rows

-- the stream of this number can show the transfer of a cycle
abbrev pub IsShownIn : TraceText → (stream : ℕ) → Cycle → Type 0
IsShownIn t stream cycle = IfSome cycle.shown (λ shown. IfSome (slice_get t.heads stream) (λ head. Shows head.params shown))
