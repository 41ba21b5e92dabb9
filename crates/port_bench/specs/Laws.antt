-- The laws of the bench that drives a port (this project's own).
use Rattle.std.specs.Prelude.{◌≡◌, ℕ, false, List, length, map, get_or, slice_get, Some, Ok}
use Rattle.type_split.specs.Streams.{PlainSplit}
use Rattle.logical_value.specs.Tree.{Tree}
use Rattle.plan_text.specs.declared.plan.Plan.{Plan}
use Rattle.plan_text.specs.declared.plan.StreamPlan.{StreamPlan}
use Rattle.handshake.specs.Rows.{StreamRun}
use Rattle.handshake.specs.Run.{run_of}
use Rattle.vhdl_text.specs.Reading as benches
use Rattle.vhdl_text.specs.Text.{bench_text}
use Rattle.vhdl_text.specs.WellFormed.{IsWellFormed}
use Rattle.vhdl_meaning.specs.Laws.{AreOrders}
use Rattle.vhdl_meaning.specs.Meaning.{Edge, cycle_at, meaning}
use Rattle.vhdl_meaning.specs.RunLaws.{FitsBench}
use Rattle.vhdl_meaning.specs.declared.run.SimRun.{SimRun}
use Rattle.bench_run.specs.Traces.{trace_text_of}
use Rattle.port_drive.specs.Drives.{drive_of}
use Rattle.port_drive.specs.Laws.{trace_of}
use Rattle.port_drive.specs.Text.{MayDrive, written_text}
use Rattle.port_bench.specs.Benches.{bench_of_runs}

-- the bench of the runs that drive a port is well formed, and its text is read as this bench. Every stall, every order: under any ready bits
-- and any orders of its processes, each stream shows the run of its transfers and gaps under these bits.
pub record IsPortBench (split : PlainSplit) (runs : List StreamRun) : Type 0 where
  pub well : IsWellFormed (bench_of_runs split runs)
  pub read : benches.bench_of (bench_text (bench_of_runs split runs)) ≡ Ok (bench_of_runs split runs)
  pub shows : (edges : List Edge) (number : ℕ) (run : StreamRun) → AreOrders (length runs) edges → slice_get runs number ≡ Some run
      → map (cycle_at run.params number) (meaning (bench_of_runs split runs) edges)
      ≡ run_of run.params run.transfers run.gaps (map (λ (edge : Edge). get_or edge.ready number false) edges)

abbrev pub DrivenPortsHaveBenches : Type 0
DrivenPortsHaveBenches = (split : PlainSplit) (value : List (List Tree)) (plan : Plan) (runs : List StreamRun) →
    MayDrive split value plan → drive_of split value plan.streams ≡ Ok runs → IsPortBench split runs

-- a run has the cycles and the ready bits of a plan; its orders are any
pub record IsRunOfPlan (plan : Plan) (run : SimRun) : Type 0 where
  pub cycles : run.cycles ≡ plan.cycles
  pub ready : run.ready ≡ map (λ (one : StreamPlan). one.ready) plan.streams

-- the law of bytes: under the cycles and ready bits of the plan, and any orders, the text of the trace of the bench is that of the trace that
-- drives the port
abbrev pub BenchesShowTheirRuns : Type 0
BenchesShowTheirRuns = (split : PlainSplit) (value : List (List Tree)) (plan : Plan) (runs : List StreamRun) (run : SimRun) →
    MayDrive split value plan → drive_of split value plan.streams ≡ Ok runs → FitsBench (bench_of_runs split runs) run → IsRunOfPlan plan run →
    trace_text_of (bench_of_runs split runs) run ≡ written_text (trace_of split plan.cycles runs)
