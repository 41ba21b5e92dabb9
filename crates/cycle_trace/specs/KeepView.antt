-- The trace that a kept trace stands for (this project's own).
use Rattle.std.specs.Prelude.{◌≡◌, ℕ, ◌≤◌, true, length, slice_get, Option, Some, None}
use Rattle.physical_stream.specs.Params.{Parameters}
use Rattle.physical_stream.specs.Signals.{Shows}
use Rattle.physical_stream.specs.Cycles.{Cycle}
use Rattle.physical_stream.specs.declared.transfer.Transfer.{Transfer}
use Rattle.cycle_trace.specs.Trace.{TraceText, IsTrace, are_heads, most_cycles, owed, params_of_heads, text_of}
use Rattle.cycle_trace.specs.declared.trace.keep.Keep.{Keep}
use Rattle.cycle_trace.specs.declared.trace.keep.Kept.{Kept}

-- the beginning of a trace: a header, and rows that are not more than it asks for, each one that its stream can show
pub record IsBegun (t : TraceText) : Type 0 where
  pub few_cycles : t.cycles ≤ most_cycles
  pub streams : are_heads t.heads ≡ true
  pub within : length t.rows ≤ length (owed (params_of_heads t.heads) t.cycles)
  pub each : (i : ℕ) (p : Parameters) (row : Cycle) (shown : Transfer) → slice_get (owed (params_of_heads t.heads) t.cycles) i ≡ Some p → slice_get t.rows i ≡ Some row
      → row.shown ≡ Some shown → Shows p shown

-- the header and the rows are these
pub record KeptStands (kept : Kept) (t : TraceText) : Type 0 where
  pub begun : IsBegun t
  pub same : text_of kept.header kept.rows ≡ t

abbrev pub KeptStandsFor : Option Kept → Option TraceText → Type 0
KeptStandsFor None None = Unit {0}
KeptStandsFor None (Some t) = ⊥
KeptStandsFor (Some kept) None = ⊥
KeptStandsFor (Some kept) (Some t) = KeptStands kept t

abbrev pub KeepStands : Keep → Option TraceText → Type 0
KeepStands keep said = KeptStandsFor keep.kept said

-- nothing, or rows that are missing
abbrev pub IsNotWhole : Option TraceText → Type 0
IsNotWhole None = Unit {0}
IsNotWhole (Some t) = IsTrace t → ⊥
