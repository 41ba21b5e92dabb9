-- The laws of `decode` (this project's own): what it reads, what it reads of a trace that `drive` wrote, and what greater levels leave.
use Rattle.std.specs.Prelude.{◌≡◌, ℕ, ◌≤◌, ◌↔◌, List, length, Some, None, Ok}
use Rattle.tydi_io.specs.Store.{Files}
use Rattle.physical_stream.specs.First.{Offence}
use Rattle.complexity_rules.specs.Levels.{AreRaised}
use Rattle.cycle_trace.specs.Survey.{first_unfinished}
use Rattle.cycle_trace.specs.Trace.{TraceText, streams_of}
use Rattle.cycle_trace.specs.TraceText as reading
use Rattle.logical_value.specs.Tree.{Tree, plain_port}
use Rattle.logical_value.specs.declared.value.PortValue.{PortValue}
use Rattle.plan_text.specs.declared.plan.Plan.{Plan}
use Rattle.port_drive.specs.Laws.{done_on}
use Rattle.trace_decode.specs.Outcome.{users_on}
use Rattle.trace_decode.specs.Tags.{OffendsWithTags}
use Rattle.type_split.specs.Streams.{PlainSplit}
use Rattle.value_text.specs.Canonical.{canonical}
use Rattle.value_text.specs.Printable.{IsSmall}
use Rattle.value_text.specs.Reading.{IsValue}
use Rattle.value_views.specs.Views.{Carries}
use Rattle.tydi_tool.specs.declared.answer.Answer.{Answer}
use Rattle.tydi_tool.specs.declared.answer.Answer.TheVariants as answers
use Rattle.tydi_tool.specs.Causes.{DecodeWords, DriveWords, HasDecode, HasDrive, IsLegalOf}
use Rattle.tydi_tool.specs.Commands.{Says}
use Rattle.tydi_tool.specs.DriveLaw.{drive_words}
use Rattle.tydi_tool.specs.Outcome.{output_answer}
use Rattle.tydi_tool.specs.Words.{Decode, Drive}

-- the words of a port that is decoded
abbrev pub decode_words : (project port trace : List ℕ) → DecodeWords
decode_words project port trace = record { at = record { project = project; port = port }; trace = trace }

-- a trace of a port breaks none of the eleven rules, ends whole on each stream, and carries this value and no other
pub record CarriesAlone (split : PlainSplit) (value : List (List Tree)) (t : TraceText) : Type 0 where
  pub legal : IsLegalOf split t
  pub whole : first_unfinished 0 (streams_of t) ≡ None
  pub carries : Carries split value (done_on (streams_of t))
  pub alone : (other : List (List Tree)) → Carries split other (done_on (streams_of t)) → other ≡ value

-- the canonical text of a value, with the user words of the transfers done
abbrev pub decoded_text : PlainSplit → List (List Tree) → TraceText → List ℕ
decoded_text split value t = canonical split value (users_on (streams_of t))

-- the text of a value is read as this value, if it is within the limits of a text
abbrev pub ReadsAgain : PlainSplit → List (List Tree) → List ℕ → Type 0
ReadsAgain split value text = (read : PortValue) → plain_port read ≡ value → IsSmall value → IsValue split text read

-- a text is written for a port that is decoded: it is that of the one value that the trace carries, and is read as this value
pub record WritesDecoded (known : Files) (words : DecodeWords) (text : List ℕ) : Type 0 where
  pub split : PlainSplit
  pub read : TraceText
  pub all : HasDecode known words split read
  pub value : List (List Tree)
  pub carried : CarriesAlone split value read
  pub is : text ≡ decoded_text split value read
  pub again : ReadsAgain split value text

-- each text that `decode` writes is that of the value that the trace carries
abbrev pub WrittenValuesAreCarried : Type 0
WrittenValuesAreCarried = (known : Files) (project port trace text : List ℕ) → Says (Some known) (Some (Decode project port trace)) (answers.Done text)
    → (length text ≤ 67108864) × WritesDecoded known (decode_words project port trace) text

-- and where a trace is legal, whole and carries a value, the answer is the text of this value, and no other
abbrev pub CarriedValuesAreWritten : Type 0
CarriedValuesAreWritten = (known : Files) (project port trace : List ℕ) (split : PlainSplit) (read : TraceText) (value : List (List Tree))
    → HasDecode known (decode_words project port trace) split read → CarriesAlone split value read
    → (a : Answer) → Says (Some known) (Some (Decode project port trace)) a ↔ (a ≡ output_answer (decoded_text split value read))

-- a text that `drive` wrote for this value: it is that of a trace which carries this value and no other; and wherever a file holds this text,
-- beside the same project, the answer of `decode` is the text of this value and of the user words of the transfers done, and no other
pub record IsReadBack (known : Files) (words : DriveWords) (text : List ℕ) : Type 0 where
  pub split : PlainSplit
  pub value : PortValue
  pub plan : Plan
  pub read : HasDrive known words split value plan
  pub t : TraceText
  pub spelled : reading.trace_of text ≡ Ok t
  pub carried : CarriesAlone split (plain_port value) t
  pub decoded : (after : Files) (trace : List ℕ) → after words.at.project ≡ known words.at.project → after trace ≡ Some text
      → (a : Answer) → Says (Some after) (Some (Decode words.at.project words.at.port trace)) a ↔ (a ≡ output_answer (decoded_text split (plain_port value) t))
  pub again : IsSmall (plain_port value) → IsValue split (decoded_text split (plain_port value) t) value

-- each text that `drive` writes is read back so
abbrev pub DrivenValuesAreReadBack : Type 0
DrivenValuesAreReadBack = (known : Files) (project port value plan text : List ℕ) → Says (Some known) (Some (Drive project port value plan)) (answers.Done text)
    → IsReadBack known (drive_words project port value plan) text

-- ---- levels

-- the same cycles at greater levels: no offence, each stream ends whole, the same value is carried, with the same user words
pub record StaysCarried (split : PlainSplit) (value : List (List Tree)) (low high : TraceText) : Type 0 where
  pub legal : (o : Offence) → OffendsWithTags split high o → ⊥
  pub whole : first_unfinished 0 (streams_of high) ≡ None
  pub carries : Carries split value (done_on (streams_of high))
  pub users : users_on (streams_of high) ≡ users_on (streams_of low)

-- a trace that is legal, whole and carries a value is so under all greater levels of its streams
abbrev pub LevelsKeepValues : Type 0
LevelsKeepValues = (split : PlainSplit) (value : List (List Tree)) (low high : TraceText) → AreRaised (streams_of low) (streams_of high) → ((o : Offence) → OffendsWithTags split low o → ⊥)
    → first_unfinished 0 (streams_of low) ≡ None → Carries split value (done_on (streams_of low)) → StaysCarried split value low high
