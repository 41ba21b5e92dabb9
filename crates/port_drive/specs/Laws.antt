-- The law of ports that are driven (this project's own).
use Rattle.std.specs.Prelude.{◌≡◌, ℕ, ◌≤◌, true, List, map, slice_get, Some, Ok}
use Rattle.physical_stream.specs.Breaks.{Breaks}
use Rattle.physical_stream.specs.Cycles.{StreamTrace, items_done}
use Rattle.physical_stream.specs.Ending.{ending_of}
use Rattle.physical_stream.specs.declared.end.End.TheVariants as ends
use Rattle.physical_stream.specs.declared.item.Item.{Item}
use Rattle.physical_stream.specs.declared.rule.Rule.{Rule}
use Rattle.cycle_trace.specs.Trace.{IsTrace, TraceText, are_heads, streams_of}
use Rattle.type_split.specs.Streams.{IsPortSplit, PlainSplit}
use Rattle.type_split.specs.declared.split.Phys.{Phys}
use Rattle.logical_value.specs.Fits.{fits_split}
use Rattle.logical_value.specs.Tree.{Tree}
use Rattle.plan_text.specs.Laws.{FitsPort}
use Rattle.plan_text.specs.declared.plan.Plan.{Plan}
use Rattle.plan_text.specs.declared.plan.StreamPlan.{StreamPlan}
use Rattle.handshake.specs.Rows.{StreamRun}
use Rattle.scheduler.specs.Planned.{Planned}
use Rattle.trace_pieces.specs.Laws.{stream_of_run, trace_of_runs}
use Rattle.value_views.specs.Views.{Carries}
use Rattle.port_drive.specs.Drives.{drive_of, heads_of, items_on}

-- a value and a plan can drive a port: a value of its type, and a plan of its streams, each of which has a lane
pub record CanBeDriven (split : PlainSplit) (value : List (List Tree)) (plan : Plan) : Type 0 where
  pub port : IsPortSplit split
  pub lanes : (number : ℕ) (stream : Phys) → slice_get split.streams number ≡ Some stream → 1 ≤ stream.params.lanes
  pub value_fits : fits_split split value ≡ true
  pub plan_fits : FitsPort split.streams plan

-- the trace of runs of the streams of a split
abbrev pub trace_of : PlainSplit → ℕ → List StreamRun → TraceText
trace_of split cycles runs = trace_of_runs cycles (heads_of split) runs

-- the items done on each stream of a trace
abbrev pub done_on : List StreamTrace → List (List Item)
done_on streams = map (λ (stream : StreamTrace). items_done stream.params stream.cycles) streams

-- one stream of a trace breaks no rule and ends whole
pub record IsLegalStream (stream : StreamTrace) : Type 0 where
  pub legal : (rule : Rule) (cycle : ℕ) → Breaks rule stream.params stream.cycles cycle → ⊥
  pub whole : ending_of stream.params stream.cycles ≡ ends.Whole

-- a run is that of the transfers that a plan makes of the items of a value, on the stream of this number
pub record IsRunOf (split : PlainSplit) (value : List (List Tree)) (number : ℕ) (stream : Phys) (plan : StreamPlan) (run : StreamRun) : Type 0 where
  pub params : run.params ≡ stream.params
  pub planned : Planned stream.params plan.wishes plan.users (items_on split value number stream) run.transfers
  pub gaps : run.gaps ≡ plan.gaps
  pub ready : run.ready ≡ plan.ready

-- where these runs drive a port: their rows are those of a trace, where the heads can stand in one; each stream of it has its
-- run, breaks no rule and ends whole, and the items done on it are exactly those of the value, so that they carry it
pub record IsDriven (split : PlainSplit) (value : List (List Tree)) (plan : Plan) (runs : List StreamRun) : Type 0 where
  pub is_trace : are_heads (heads_of split) ≡ true → IsTrace (trace_of split plan.cycles runs)
  pub streams : streams_of (trace_of split plan.cycles runs) ≡ map stream_of_run runs
  pub planned : (number : ℕ) (stream : Phys) (one : StreamPlan) (run : StreamRun) → slice_get split.streams number ≡ Some stream → slice_get plan.streams number ≡ Some one
      → slice_get runs number ≡ Some run → IsRunOf split value number stream one run
  pub legal : (number : ℕ) (stream : StreamTrace) → slice_get (streams_of (trace_of split plan.cycles runs)) number ≡ Some stream → IsLegalStream stream
  pub items : (number : ℕ) (stream : Phys) (done : List Item) → slice_get split.streams number ≡ Some stream
      → slice_get (done_on (streams_of (trace_of split plan.cycles runs))) number ≡ Some done → done ≡ items_on split value number stream
  pub carries : Carries split value (done_on (streams_of (trace_of split plan.cycles runs)))

abbrev pub DrivenPortsAreLegal : Type 0
DrivenPortsAreLegal = (split : PlainSplit) (value : List (List Tree)) (plan : Plan) (runs : List StreamRun) →
    CanBeDriven split value plan → drive_of split value plan.streams ≡ Ok runs → IsDriven split value plan runs
