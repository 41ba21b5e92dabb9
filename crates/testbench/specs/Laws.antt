-- The laws of driving benches (this project's own).
use Rattle.std.specs.Prelude.{◌≡◌, ℕ, ◌≤◌, false, List, length, map, get_or, slice_get, Some}
use Rattle.std.specs.List.{All}
use Rattle.handshake.specs.Run.{run_of, gap_of}
use Rattle.vhdl_text.specs.WellFormed.{AreHeads, IsWellFormed}
use Rattle.vhdl_meaning.specs.Laws.{AreOrders}
use Rattle.vhdl_meaning.specs.Meaning.{Edge, meaning, cycle_at}
use Rattle.testbench.specs.Driving.{Driven, driving, AreShown}

-- every stall, every order: on each stream a driving bench shows the run of its transfers and gaps, under any ready bits and orders
abbrev pub DrivingRuns : Type 0
DrivingRuns = (streams : List Driven) (edges : List Edge) (stream : ℕ) (d : Driven) → All AreShown streams → AreOrders (length streams) edges → slice_get streams stream ≡ Some d →
    map (cycle_at d.head.params stream) (meaning (driving streams) edges) ≡ run_of d.head.params d.transfers d.gaps (map (λ (edge : Edge). get_or edge.ready stream false) edges)

-- no gap is longer than a pause may be
abbrev pub AreShort : List Driven → Type 0
AreShort streams = (stream : ℕ) (d : Driven) → slice_get streams stream ≡ Some d → (number : ℕ) → gap_of d.head.params d.transfers d.gaps number ≤ 1000000

-- a driving bench of streams that may stand together is well formed
abbrev pub DrivingIsWellFormed : Type 0
DrivingIsWellFormed = (streams : List Driven) → AreHeads (map (λ (d : Driven). d.head) streams) → All AreShown streams → AreShort streams → IsWellFormed (driving streams)
