-- A sink of rows stands for a header and the rows so far, which may be fewer than the header asks for (this project's own).
use Rattle.std.specs.Prelude.{◌≡◌, ◌≤◌, true, [], ◌∷◌, ◌++◌, length, slice_get, Some, IfSome}
use Rattle.physical_stream.specs.Params.{Parameters}
use Rattle.physical_stream.specs.Signals.{Shows}
use Rattle.physical_stream.specs.Cycles.{Cycle}
use Rattle.physical_stream.specs.declared.head.Header.{Header}
use Rattle.cycle_trace.specs.Trace.{TraceText, are_heads, most_cycles, owed, params_of_heads}

-- a header and no rows
abbrev pub begun_by : Header → TraceText
begun_by header = record { cycles = header.cycles; heads = header.heads; rows = [] }

-- one row more
abbrev pub with_row : TraceText → Cycle → TraceText
with_row t row = record { cycles = t.cycles; heads = t.heads; rows = t.rows ++ row ∷ [] }

-- a header that a trace may have: at most 1,000,000 cycles, and at most 65,536 heads of different paths
pub record IsHeader (header : Header) : Type 0 where
  pub few_cycles : header.cycles ≤ most_cycles
  pub streams : are_heads header.heads ≡ true

-- one more row is needed, and this one can be shown by the stream whose turn it is
pub record CanTake (t : TraceText) (row : Cycle) : Type 0 where
  pub params : Parameters
  pub turn : slice_get (owed (params_of_heads t.heads) t.cycles) (length t.rows) ≡ Some params
  pub shown : IfSome row.shown (Shows params)
