-- The streams that a bench drives, by the split of a port, transfers and a plan (this project's own).
use Rattle.std.specs.Prelude.{List, [], ◌∷◌}
use Rattle.std.specs.List.{All}
use Rattle.physical_stream.specs.Signals.{Fits, Shows}
use Rattle.physical_stream.specs.declared.head.Head.{Head}
use Rattle.physical_stream.specs.declared.transfer.Transfer.{Transfer}
use Rattle.type_split.specs.declared.split.Phys.{Phys}
use Rattle.plan_text.specs.declared.plan.StreamPlan.{StreamPlan}
use Rattle.testbench.specs.Driving.{Driven}

-- the head of a physical stream
abbrev pub head_of : Phys → Head
head_of stream = record { path = stream.path; params = stream.params; reversed = stream.reversed }

-- each physical stream with its list of transfers and the gaps of its plan
abbrev pub driven_by : List Phys → List (List Transfer) → List StreamPlan → List Driven
driven_by [] lists plans = []
driven_by (stream ∷ streams) [] plans = []
driven_by (stream ∷ streams) (transfers ∷ lists) [] = []
driven_by (stream ∷ streams) (transfers ∷ lists) (plan ∷ plans) =
    record { head = head_of stream; transfers = transfers; gaps = plan.gaps } ∷ driven_by streams lists plans

-- one list of transfers for each stream, and each transfer as wide as its stream
abbrev pub FitLists : List Phys → List (List Transfer) → Type 0
FitLists [] [] = Unit {0}
FitLists [] (transfers ∷ lists) = ⊥
FitLists (stream ∷ streams) [] = ⊥
FitLists (stream ∷ streams) (transfers ∷ lists) = All (Fits stream.params) transfers × FitLists streams lists

-- one list of transfers for each stream, and each transfer is one that its stream can show
abbrev pub ShowLists : List Phys → List (List Transfer) → Type 0
ShowLists [] [] = Unit {0}
ShowLists [] (transfers ∷ lists) = ⊥
ShowLists (stream ∷ streams) [] = ⊥
ShowLists (stream ∷ streams) (transfers ∷ lists) = All (Shows stream.params) transfers × ShowLists streams lists
