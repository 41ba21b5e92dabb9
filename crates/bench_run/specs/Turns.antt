-- One row more of a bench (this project's own).
use Rattle.std.specs.Prelude.{◌≡◌, ℕ, ◌<◌, List, [], ◌∷◌, length, map, Option, Some, None}
use Rattle.physical_stream.specs.Cycles.{Cycle}
use Rattle.physical_stream.specs.declared.head.Head.{Head}
use Rattle.vhdl_text.specs.declared.bench.Bench.{Bench}
use Rattle.vhdl_meaning.specs.Simulated.{IsRowOf}
use Rattle.vhdl_meaning.specs.declared.run.SimRun.{SimRun}
use Rattle.bench_run.specs.Places.{rows_behind_place}
use Rattle.bench_run.specs.Traces.{edges_from}
use Rattle.bench_run.specs.declared.bench_rows.BenchRows.{BenchRows}
use Rattle.bench_run.specs.declared.turn.Turn.{Turn}

-- the rows that are left
abbrev pub rows_left : BenchRows → List Cycle
rows_left rows = rows_behind_place rows.sim.bench rows.run rows.number rows.stream

-- the row that a turn makes: that of its stream and its ready bit, in the cycle of this number of a bench under a run
pub record Makes (row : Cycle) (bench : Bench) (run : SimRun) (number : ℕ) (turn : Turn) : Type 0 where
  pub within : turn.stream < length bench.heads
  pub is : (cycle : Cycle) → IsRowOf bench (edges_from run 0 number) turn.stream turn.ready cycle → cycle ≡ row

-- the turn makes the first of the rows, where there is one
abbrev pub FirstTurn : List Cycle → Bench → SimRun → ℕ → Option Turn → Type 0
FirstTurn [] bench run number None = Unit {0}
FirstTurn [] bench run number (Some turn) = ⊥
FirstTurn (row ∷ more) bench run number None = ⊥
FirstTurn (row ∷ more) bench run number (Some turn) = Makes row bench run number turn

-- how many transfers of each stream are left after all rows: none is known to be, since a bench counts no transfers
abbrev pub none_left : List Head → List ℕ
none_left heads = map (λ (head : Head). 0) heads
