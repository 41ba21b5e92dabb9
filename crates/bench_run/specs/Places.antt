-- Where the rows of a bench stand (this project's own).
use Rattle.std.specs.Prelude.{◌≡◌, ℕ, ◌+◌, ◌*◌, ◌≤◌, Bool, false, List, length, map, take, drop, get_or}
use Rattle.physical_stream.specs.Cycles.{Cycle}
use Rattle.vhdl_text.specs.declared.bench.Bench.{Bench}
use Rattle.vhdl_meaning.specs.RunLaws.{FitsBench}
use Rattle.vhdl_meaning.specs.Simulated.{StandsFor}
use Rattle.vhdl_meaning.specs.declared.run.SimRun.{SimRun}
use Rattle.vhdl_meaning.specs.declared.sim.Sim.{Sim}
use Rattle.bench_run.specs.Traces.{edges_from, rows_of}

-- the simulation stands in the cycle of this number, and the ready bits of that cycle are kept for so many streams
pub record IsAt (sim : Sim) (run : SimRun) (kept : List Bool) (number stream : ℕ) : Type 0 where
  pub fits : FitsBench sim.bench run
  pub stands : StandsFor sim sim.bench (edges_from run 0 number)
  pub room : length kept ≡ length sim.bench.heads
  pub bits : take stream kept ≡ map (λ (bits : List Bool). get_or bits number false) (take stream run.ready)
  pub within : stream ≤ length sim.bench.heads
  pub few : number ≤ run.cycles

-- the rows from the one of this stream in the cycle of this number on
abbrev pub rows_behind_place : Bench → SimRun → (number stream : ℕ) → List Cycle
rows_behind_place bench run number stream = drop (number * length bench.heads + stream) (rows_of bench run)
