-- Laws of traces against a port's type, for all traces (this project's own).
use Rattle.std.specs.Prelude.{◌≡◌, ℕ, List, Ok}
use Rattle.std.specs.List.{All}
use Rattle.physical_stream.specs.StreamLine.{IsHead}
use Rattle.physical_stream.specs.declared.item.Item.{Item}
use Rattle.type_split.specs.Streams.{PlainSplit}
use Rattle.logical_value.specs.Tree.{Tree}
use Rattle.value_views.specs.Comparing.{Disagreement}
use Rattle.value_views.specs.Views.{Carries}
use Rattle.complexity_rules.specs.Levels.{OffencesFallBy}
use Rattle.cycle_trace.specs.Trace.{IsTrace, TraceText, streams_of}
use Rattle.handshake.specs.Rows.{StreamRun}
use Rattle.plan_text.specs.declared.plan.Plan.{Plan}
use Rattle.port_drive.specs.Drives.{drive_of}
use Rattle.port_drive.specs.Laws.{CanBeDriven, trace_of}
use Rattle.trace_decode.specs.Outcome.{Carried, DisagreeAt, IsOutcome, Outcome, users_on}
use Rattle.trace_decode.specs.Standing.{CanDecode}
use Rattle.trace_decode.specs.Tags.{BreaksWithTags, element_at}
use Rattle.trace_decode.specs.Texts.{IsTextOutcome, TextOutcome}

-- a trace has one outcome
abbrev pub OneOutcome : Type 0
OneOutcome = (split : PlainSplit) → CanDecode split → (t : TraceText) (one other : Outcome) → IsOutcome split t one → IsOutcome split t other → one ≡ other

-- a trace whose heads are in form is not without an outcome
abbrev pub SomeOutcome : Type 0
SomeOutcome = (split : PlainSplit) → CanDecode split → (t : TraceText) → IsTrace t → All IsHead t.heads → ((outcome : Outcome) → IsOutcome split t outcome → ⊥) → ⊥

-- a text has one outcome
abbrev pub OneTextOutcome : Type 0
OneTextOutcome = (split : PlainSplit) → CanDecode split → (bytes : List ℕ) (one other : TextOutcome) → IsTextOutcome split bytes one → IsTextOutcome split bytes other → one ≡ other

-- a text is not without an outcome
abbrev pub SomeTextOutcome : Type 0
SomeTextOutcome = (split : PlainSplit) → CanDecode split → (bytes : List ℕ) → ((outcome : TextOutcome) → IsTextOutcome split bytes outcome → ⊥) → ⊥

-- items that disagree carry no value
abbrev pub DisagreeingCarryNone : Type 0
DisagreeingCarryNone = (split : PlainSplit) → CanDecode split → (done : List (List Item)) (place : Disagreement) → DisagreeAt split done place → (roots : List (List Tree)) → Carries split roots done → ⊥

-- items carry one value at most
abbrev pub ItemsCarryOne : Type 0
ItemsCarryOne = (split : PlainSplit) → CanDecode split → (done : List (List Item)) (one other : List (List Tree)) → Carries split one done → Carries split other done → one ≡ other

-- the outcome of the rows that drive a port with a value is this value, with the user words of the transfers done
abbrev pub DrivenIsCarried : Type 0
DrivenIsCarried = (split : PlainSplit) → CanDecode split → (value : List (List Tree)) (plan : Plan) (runs : List StreamRun) → CanBeDriven split value plan → drive_of split value plan.streams ≡ Ok runs
    → IsOutcome split (trace_of split plan.cycles runs) (Carried value (users_on (streams_of (trace_of split plan.cycles runs))))

-- an offence at greater levels is one at lower ones, by rules 1 to 11
abbrev pub OffencesFallWithTags : Type 0
OffencesFallWithTags = (split : PlainSplit) → OffencesFallBy (λ stream. BreaksWithTags (element_at split stream))
