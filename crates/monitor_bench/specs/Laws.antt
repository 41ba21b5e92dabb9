-- The reports of a monitor, by the items that are done alone (this project's own).
use Rattle.std.specs.Prelude.{◌≡◌, ℕ, suc, ◌<◌, List, length, take, Option, Some, None, slice_get}
use Rattle.physical_stream.specs.Cycles.{Cycle, items_done}
use Rattle.physical_stream.specs.Params.{Parameters}
use Rattle.physical_stream.specs.declared.item.Item.{Item}
use Rattle.type_split.specs.Streams.{PlainSplit}
use Rattle.monitor_bench.specs.Meaning.{Process, place_of, processes_of, report_of}
use Rattle.monitor_bench.specs.Monitors.{monitor_of}

-- items are a front of the expected ones
abbrev pub IsFront : (front all : List Item) → Type 0
IsFront front all = take (length front) all ≡ front

-- the items done by the end of the cycle of this number are a front of the expected ones
abbrev pub IsAsExpected : Parameters → List Item → List Cycle → ℕ → Type 0
IsAsExpected p want cycles cycle = IsFront (items_done p (take (suc cycle) cycles)) want

-- this is the first cycle by whose end the items done are no front of the expected ones; none, where they always are
abbrev pub IsFirstOther : Parameters → List Item → List Cycle → Option ℕ → Type 0
IsFirstOther p want cycles None = (cycle : ℕ) → cycle < length cycles → IsAsExpected p want cycles cycle
IsFirstOther p want cycles (Some first) =
    (first < length cycles) × ((IsAsExpected p want cycles first → ⊥) × ((cycle : ℕ) → cycle < first → IsAsExpected p want cycles cycle))

-- a process reports the first cycle by whose end the items done are no front of the expected ones; where there is none, its place is the number of
-- all items done
pub record ReportsFirstOther (process : Process) (cycles : List Cycle) : Type 0 where
  pub report : IsFirstOther process.params process.want cycles (report_of process cycles)
  pub place : report_of process cycles ≡ None → place_of process cycles ≡ length (items_done process.params cycles)

-- so does each process of the monitor of a port, for all cycles of its stream
abbrev pub MonitorsReport : Type 0
MonitorsReport = (split : PlainSplit) (items : List (List Item)) (stream : ℕ) (process : Process)
    → slice_get (processes_of (monitor_of split items)) stream ≡ Some process
    → (cycles : List Cycle) → ReportsFirstOther process cycles
