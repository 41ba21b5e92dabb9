-- A value and a plan make a run of transfers for each physical stream of a port (this project's own).
use Rattle.std.specs.Prelude.{ℕ, suc, ◌%◌, Bool, not, ◌==◌, ◌&&◌, ◌||◌, nat_le, if◌then◌else◌, List, [], ◌∷◌, length, map, Option, Some, None, Result, Ok, Err}
use Rattle.tydi_base.specs.Level.{number_of}
use Rattle.tydi_base.specs.Reading.{◌>>=◌}
use Rattle.physical_stream.specs.Params.{Parameters}
use Rattle.physical_stream.specs.declared.head.Head.{Head}
use Rattle.physical_stream.specs.declared.item.Item.{Item}
use Rattle.nest_shape.specs.Flat.{flat_all}
use Rattle.nest_shape.specs.Tree as nests
use Rattle.type_split.specs.Streams.{PlainSplit}
use Rattle.type_split.specs.declared.split.Phys.{Phys}
use Rattle.logical_value.specs.Tree.{Tree}
use Rattle.plan_text.specs.declared.plan.StreamPlan.{StreamPlan}
use Rattle.handshake.specs.Rows.{StreamRun}
use Rattle.handshake.specs.Run.{undone}
use Rattle.scheduler.specs.Planned.{plan_of}
use Rattle.value_views.specs.Views.{view_of_stream}

-- why a port is not driven; streams count from 0
pub data Undriven : Type 0 where
  CountNotMultiple : (stream count lanes : ℕ) → Undriven
  NotFinished : (stream left : ℕ) → Undriven

-- ---- the items of a stream

-- the items of a view: its flat form
abbrev pub items_in : ℕ → Option (List nests.Tree) → List Item
items_in dims None = []
items_in dims (Some view) = flat_all dims (nests.trees_of view)

-- the items of a value on the physical stream of this number
abbrev pub items_on : PlainSplit → List (List Tree) → ℕ → Phys → List Item
items_on split value number stream = items_in stream.params.dims (view_of_stream split value number)

-- ---- the run of a stream

-- the lanes divide the items, where each transfer has an element in every lane: without dimensions and below level 5
abbrev pub is_multiple : Parameters → List Item → Bool
is_multiple p items = not ((p.dims == 0) && nat_le (number_of p.level) 4) || (length items % p.lanes == 0)

-- the run of items by a plan: the transfers that are planned, with the gaps and the ready bits of the plan
abbrev pub planned_run : Parameters → List Item → StreamPlan → StreamRun
planned_run p items plan = record { params = p; transfers = plan_of p plan.wishes plan.users items; gaps = plan.gaps; ready = plan.ready }

-- the same, where the lanes divide the items; the stream has this number
abbrev pub run_unless : ℕ → Parameters → List Item → StreamPlan → Result StreamRun Undriven
run_unless number p items plan = if is_multiple p items then Ok (planned_run p items plan) else Err (CountNotMultiple number (length items) p.lanes)

-- ---- the runs of a port

-- the runs of these streams by these plans, the first stream having this number; or the first stream whose lanes do not divide its items
abbrev pub runs_from : PlainSplit → List (List Tree) → ℕ → List Phys → List StreamPlan → Result (List StreamRun) Undriven
runs_from split value number [] plans = Ok []
runs_from split value number (stream ∷ streams) [] = Ok []
runs_from split value number (stream ∷ streams) (plan ∷ plans) =
    run_unless number stream.params (items_on split value number stream) plan >>= λ run. runs_from split value (suc number) streams plans >>= λ runs. Ok (run ∷ runs)

-- the runs of all physical streams of a port
abbrev pub runs_of : PlainSplit → List (List Tree) → List StreamPlan → Result (List StreamRun) Undriven
runs_of split value plans = runs_from split value 0 split.streams plans

-- how many transfers of a run are not done when its ready bits are over
abbrev pub left_of : StreamRun → ℕ
left_of run = undone run.params run.transfers run.gaps run.ready

-- all transfers of these runs are done, or the first run that leaves some; the first run is of the stream of this number
abbrev pub finished_from : ℕ → List StreamRun → List StreamRun → Result (List StreamRun) Undriven
finished_from number all [] = Ok all
finished_from number all (run ∷ runs) = if left_of run == 0 then finished_from (suc number) all runs else Err (NotFinished number (left_of run))

-- the runs that drive a port, which finish; or why it is not driven
abbrev pub drive_of : PlainSplit → List (List Tree) → List StreamPlan → Result (List StreamRun) Undriven
drive_of split value plans = runs_of split value plans >>= λ runs. finished_from 0 runs runs

-- the heads of the streams of a split, as a trace has them
abbrev pub head_of_stream : Phys → Head
head_of_stream stream = record { path = stream.path; params = stream.params; reversed = stream.reversed }

abbrev pub heads_of : PlainSplit → List Head
heads_of split = map head_of_stream split.streams
