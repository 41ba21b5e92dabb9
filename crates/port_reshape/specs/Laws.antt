-- The laws of ports that are reshaped (this project's own).
use Rattle.std.specs.Prelude.{◌≡◌, ℕ, ◌+◌, ◌≤◌, List, [], ◌∷◌, length, Ok}
use Rattle.tydi_base.specs.Level.{LevelNumbers}
use Rattle.type_split.specs.Streams.{IsPortSplit, PlainSplit}
use Rattle.type_split.specs.declared.split.Phys.{Phys}
use Rattle.logical_value.specs.Tree.{Tree}
use Rattle.plan_text.specs.Laws.{FitsPort}
use Rattle.plan_text.specs.declared.plan.Plan.{Plan}
use Rattle.plan_text.specs.declared.plan.StreamPlan.{StreamPlan}
use Rattle.handshake.specs.Laws.{gaps_below, ones_in}
use Rattle.handshake.specs.Rows.{StreamRun}
use Rattle.port_drive.specs.Drives.{items_on}
use Rattle.port_drive.specs.Text.{MayDrive, drive_text, written_text}
use Rattle.reshape.specs.Reshaping.{far_of}
use Rattle.reshape_laws.specs.Laws.{far_plan}
use Rattle.port_reshape.specs.Far.{IsFarSplit, IsReshapable, IsShape, far_params, far_split}
use Rattle.port_reshape.specs.Reshapes.{far_trace, reshape_text, source_of}

-- a value of the type of a port, a plan of its streams, and a shape that the port's one stream can be given
pub record MayReshape (split : PlainSplit) (value : List (List Tree)) (plan : Plan) (lanes : ℕ) (level : LevelNumbers) : Type 0 where
  pub drives : MayDrive split value plan
  pub port : IsReshapable split.streams level
  pub shape : IsShape lanes level

-- a plan with the same cycles and ready bits for the one stream, some gaps, and no wishes or user words
pub record IsFarPlan (plan other : Plan) : Type 0 where
  pub cycles : other.cycles ≡ plan.cycles
  pub old : StreamPlan
  pub old_one : plan.streams ≡ old ∷ []
  pub new : StreamPlan
  pub new_one : other.streams ≡ new ∷ []
  pub ready : new.ready ≡ old.ready
  pub no_wishes : new.wishes ≡ []
  pub no_users : new.users ≡ []

-- a text is what a value drives at another port, by such a plan; all laws of driven texts speak of it, where that is the split of a port
pub record IsDrivenAs (far : PlainSplit) (value : List (List Tree)) (plan : Plan) (text : List ℕ) : Type 0 where
  pub other : Plan
  pub plain : IsFarPlan plan other
  pub fits : FitsPort far.streams other
  pub text_is : drive_text far value other ≡ Ok text
  pub may : IsPortSplit far → MayDrive far value other

-- the text at the far side is what the value drives at a port that differs only in the lanes and the level of its stream
abbrev pub ReshapedTextsAreDriven : Type 0
ReshapedTextsAreDriven = (split far : PlainSplit) (value : List (List Tree)) (plan : Plan) (lanes : ℕ) (level : LevelNumbers) (text : List ℕ)
    → MayReshape split value plan lanes level → IsFarSplit split far lanes level → reshape_text split value plan lanes level ≡ Ok text → IsDrivenAs far value plan text

-- the split with other lanes and another level in its streams differs in these alone
abbrev pub FarSplitsAreFar : Type 0
FarSplitsAreFar = (split : PlainSplit) (lanes : ℕ) (level : LevelNumbers) → IsFarSplit split (far_split split lanes level) lanes level

-- a source has as many far ready bits that are 1 as there are far transfers, its own transfers and cycles of its effective gaps
abbrev pub HasFarReadyBits : ℕ → LevelNumbers → StreamRun → Type 0
HasFarReadyBits lanes level source =
    length (far_plan source.params (far_params lanes level source.params) source.transfers) + length source.transfers + gaps_below source.params source.transfers source.gaps (length source.transfers)
    ≤ ones_in source.ready

-- a port that has these runs of a source is reshaped, where the source has so many
abbrev pub ReadySourcesReshape : Type 0
ReadySourcesReshape = (split : PlainSplit) (value : List (List Tree)) (plan : Plan) (lanes : ℕ) (level : LevelNumbers) (stream : Phys) (one : StreamPlan) (source : StreamRun)
    → MayReshape split value plan lanes level → split.streams ≡ stream ∷ [] → plan.streams ≡ one ∷ []
    → source_of stream.params (far_params lanes level stream.params) (items_on split value 0 stream) one ≡ Ok source → HasFarReadyBits lanes level source
    → reshape_text split value plan lanes level
    ≡ Ok (written_text (far_trace split lanes level plan.cycles (far_of source.params (far_params lanes level source.params) source.transfers source.gaps source.ready)))
