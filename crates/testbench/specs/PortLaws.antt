-- The laws of the bench of a port (this project's own).
use Rattle.std.specs.Prelude.{◌≡◌, ℕ, false, List, length, map, get_or, slice_get, Some}
use Rattle.physical_stream.specs.declared.transfer.Transfer.{Transfer}
use Rattle.type_split.specs.declared.split.Phys.{Phys}
use Rattle.plan_text.specs.declared.plan.Plan.{Plan}
use Rattle.plan_text.specs.declared.plan.StreamPlan.{StreamPlan}
use Rattle.plan_text.specs.Laws.{FitsPort}
use Rattle.handshake.specs.Run.{run_of}
use Rattle.vhdl_text.specs.WellFormed.{AreHeads, IsWellFormed}
use Rattle.vhdl_meaning.specs.Laws.{AreOrders}
use Rattle.vhdl_meaning.specs.Meaning.{Edge, meaning, cycle_at}
use Rattle.testbench.specs.Driving.{driving}
use Rattle.testbench.specs.Given.{ShowLists, driven_by, head_of}

-- on each stream of a port the bench shows the run of the stream's transfers and the gaps of its plan, under any ready bits and orders
abbrev pub PortBenchesRun : Type 0
PortBenchesRun = (streams : List Phys) (lists : List (List Transfer)) (plan : Plan) → ShowLists streams lists → FitsPort streams plan
    → (edges : List Edge) (number : ℕ) (stream : Phys) (transfers : List Transfer) (one : StreamPlan) → AreOrders (length streams) edges
    → slice_get streams number ≡ Some stream → slice_get lists number ≡ Some transfers → slice_get plan.streams number ≡ Some one
    → map (cycle_at stream.params number) (meaning (driving (driven_by streams lists plan.streams)) edges)
    ≡ run_of stream.params transfers one.gaps (map (λ (edge : Edge). get_or edge.ready number false) edges)

-- the bench has a text where the heads of the streams may stand together
abbrev pub PortBenchesAreWellFormed : Type 0
PortBenchesAreWellFormed = (streams : List Phys) (lists : List (List Transfer)) (plan : Plan) → AreHeads (map head_of streams) → ShowLists streams lists → FitsPort streams plan
    → IsWellFormed (driving (driven_by streams lists plan.streams))
