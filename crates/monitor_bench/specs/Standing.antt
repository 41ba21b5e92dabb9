-- The cycles that the processes of a monitor stand for (this project's own).
use Rattle.std.specs.Prelude.{◌≡◌, ℕ, ◌<◌, ◌-◌, ◌^◌, ◌==◌, if◌then◌else◌, List, [], ◌∷◌, ◌++◌, length, Some, IfSome, slice_get}
use Rattle.std.specs.List.{All}
use Rattle.physical_stream.specs.Cycles.{Cycle}
use Rattle.physical_stream.specs.Signals.{Fits}
use Rattle.watch_text.specs.Statements.{PlainWatch, plain_watch}
use Rattle.monitor_bench.specs.Meaning.{Process, processes_of, report_of, state_after}
use Rattle.monitor_bench.specs.Running.{HasRoom, state_of}
use Rattle.monitor_bench.specs.declared.process_sim.ProcessSim.{ProcessSim}
use Rattle.monitor_bench.specs.declared.processes.Processes.{Processes}
use Rattle.monitor_bench.specs.declared.watch_sim.WatchSim.{WatchSim}

-- a process after these cycles of its stream
pub record IsAfter (process : Process) (cycles : List Cycle) (sim : ProcessSim) : Type 0 where
  pub room : HasRoom process.params sim.running
  pub state : state_of sim.running ≡ state_after process cycles
  pub edges : sim.edges ≡ length cycles
  pub report : sim.report ≡ report_of process cycles

-- a monitor whose processes can run: there are a table and a process for each stream, and each table has fewer than 2^32 - 1 items
pub record CanWatch (watch : PlainWatch) : Type 0 where
  pub tables : length watch.want ≡ length watch.heads
  pub processes : length watch.procs ≡ length watch.heads
  pub few : All (λ want. length want < 2 ^ 32 - 1) watch.want

-- the processes of a monitor, each after these cycles of its stream
pub record AreAfter (watch : PlainWatch) (cycles : ℕ → List Cycle) (sims : Processes) : Type 0 where
  pub watch_can : CanWatch watch
  pub many : length sims.each.items ≡ length watch.heads
  pub are : (stream : ℕ) (process : Process) (sim : ProcessSim) → slice_get (processes_of watch) stream ≡ Some process
      → slice_get sims.each.items stream ≡ Some sim → IsAfter process (cycles stream) sim

-- the same cycles, with one more of the stream of this number
abbrev pub with_cycle : ℕ → Cycle → (ℕ → List Cycle) → ℕ → List Cycle
with_cycle stream row cycles other = if other == stream then cycles other ++ row ∷ [] else cycles other

-- the process of this number can take this row
pub record CanTakeEdge (watch : PlainWatch) (cycles : ℕ → List Cycle) (stream : ℕ) (row : Cycle) : Type 0 where
  pub within : stream < length watch.heads
  pub few : length (cycles stream) < 2 ^ 32 - 1
  pub shown : (process : Process) → slice_get (processes_of watch) stream ≡ Some process → IfSome row.shown (Fits process.params)

-- the monitor that is run
abbrev pub watch_of : WatchSim → PlainWatch
watch_of sim = plain_watch sim.watch

-- a monitor runs, with these cycles of each stream so far
abbrev pub StandsFor : WatchSim → PlainWatch → (ℕ → List Cycle) → Type 0
StandsFor sim watch cycles = (watch_of sim ≡ watch) × AreAfter watch cycles sim.processes
