-- The texts of a port that is driven, its trace and its testbench, or why a port is not driven (this project's own).
use Rattle.std.specs.Prelude.{◌≡◌, ℕ, List, [], ◌∷◌, map, Option, Some, None, Result, Ok, Err, codes}
use Rattle.std.specs.List.{slice_index_or}
use Rattle.logical_value.specs.Tree.{plain_port}
use Rattle.logical_value.specs.declared.value.PortValue.{PortValue}
use Rattle.plan_text.specs.declared.plan.Plan.{Plan}
use Rattle.port_bench.specs.Benches.{bench_text_of}
use Rattle.port_drive.specs.Drives.{CountNotMultiple, NotFinished, Undriven}
use Rattle.port_drive.specs.Text.{drive_text}
use Rattle.type_split.specs.Carried.{uncarried_of}
use Rattle.type_split.specs.Streams.{PlainSplit}
use Rattle.type_split.specs.declared.split.Phys.{Phys}
use Rattle.tydi_tool.specs.declared.answer.Answer.{Answer}
use Rattle.tydi_tool.specs.declared.driven_text.DrivenText.{DrivenText}
use Rattle.tydi_tool.specs.declared.driven_text.DrivenText.TheVariants as texts
use Rattle.tydi_tool.specs.Ask.{TellsOf}
use Rattle.tydi_tool.specs.Outcome.{output_answer}
use Rattle.tydi_tool.specs.Refusals.{Number, Refusal, Stream, no_carrier}

-- ---- nodes that are not carried

-- nothing, unless the node of this path is not carried
abbrev pub carried_unless : Option (List (List ℕ)) → Result (Unit {0}) Refusal
carried_unless None = Ok tt
carried_unless (Some path) = Err (no_carrier path)

-- all nodes of a split are carried, or the refusal of the first that is not
abbrev pub carried : PlainSplit → Result (Unit {0}) Refusal
carried split = carried_unless (uncarried_of split)

-- ---- ports that are not driven

-- the path of the physical stream of this number
abbrev pub path_of : PlainSplit → ℕ → List (List ℕ)
path_of split stream = slice_index_or (map (λ (one : Phys). one.path) split.streams) stream []

-- the number of the stream that a reason names
abbrev pub stream_of : Undriven → ℕ
stream_of (CountNotMultiple stream count lanes) = stream
stream_of (NotFinished stream left) = stream

-- the refusal of a value and a plan that do not drive a port
abbrev pub refusal_of_driving : PlainSplit → Undriven → Refusal
refusal_of_driving split (CountNotMultiple stream count lanes) =
    record { name = codes "CountNotMultiple"; details = Stream (path_of split stream) ∷ Number count ∷ Number lanes ∷ [] }
refusal_of_driving split (NotFinished stream left) = record { name = codes "NotFinished"; details = Stream (path_of split stream) ∷ Number left ∷ [] }

-- a result with the refusal of its reason
abbrev pub refused_by : {A : Type 0} → PlainSplit → Result A Undriven → Result A Refusal
refused_by split (Ok a) = Ok a
refused_by split (Err reason) = Err (refusal_of_driving split reason)

-- ---- the answers of `drive` and of `bench`

-- a text of a port that is driven, where it is not too long, or the refusal of the reason why it is not driven
abbrev pub TellsMade : PlainSplit → Result (List ℕ) Undriven → Answer → Type 0
TellsMade split made a = TellsOf (refused_by split made) (λ text b. b ≡ output_answer text) a

-- the trace that a value and a plan drive
abbrev pub TellsDriven : PlainSplit → PortValue → Plan → Answer → Type 0
TellsDriven split value plan a = TellsMade split (drive_text split (plain_port value) plan) a

-- the testbench that drives the port with a value by a plan
abbrev pub TellsBench : PlainSplit → PortValue → Plan → Answer → Type 0
TellsBench split value plan a = TellsMade split (bench_text_of split (plain_port value) plan) a

-- one of the two
abbrev pub TellsText : DrivenText → PlainSplit → PortValue → Plan → Answer → Type 0
TellsText texts.Trace split value plan a = TellsDriven split value plan a
TellsText texts.Bench split value plan a = TellsBench split value plan a
