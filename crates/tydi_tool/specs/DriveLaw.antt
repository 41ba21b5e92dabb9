-- The law of `drive` (this project's own): which files it accepts, and which trace it then writes.
use Rattle.std.specs.Prelude.{◌≡◌, ℕ, ◌≤◌, List, length, Some, Ok}
use Rattle.tydi_io.specs.Store.{Files}
use Rattle.logical_value.specs.Tree.{plain_port}
use Rattle.logical_value.specs.declared.value.PortValue.{PortValue}
use Rattle.plan_text.specs.declared.plan.Plan.{Plan}
use Rattle.handshake.specs.Rows.{StreamRun}
use Rattle.port_drive.specs.Drives.{drive_of}
use Rattle.port_drive.specs.Laws.{trace_of}
use Rattle.port_drive.specs.Text.{IsDrivenText, written_text}
use Rattle.type_split.specs.Streams.{PlainSplit}
use Rattle.tydi_tool.specs.declared.answer.Answer.TheVariants as answers
use Rattle.tydi_tool.specs.Causes.{DriveWords, HasDrive}
use Rattle.tydi_tool.specs.Commands.{Says}
use Rattle.tydi_tool.specs.Outcome.{output_answer}
use Rattle.tydi_tool.specs.Words.{Drive}

-- the words of a port that is driven
abbrev pub drive_words : (project port value plan : List ℕ) → DriveWords
drive_words project port value plan = record { at = record { project = project; port = port }; value = value; plan = plan }

-- a project, a port, a value and a plan are accepted: the four have readings, the port is there, no two of its physical streams clash, each
-- node is carried, the lanes of each stream divide its elements, and these runs, which the value and the plan make, finish
pub record Accepts (known : Files) (words : DriveWords) (split : PlainSplit) (value : PortValue) (plan : Plan) (runs : List StreamRun) : Type 0 where
  pub read : HasDrive known words split value plan
  pub drives : drive_of split (plain_port value) plan.streams ≡ Ok runs

-- a text is written for a port that is driven: it is read as the trace of the runs of the planned transfers, each stream of which breaks no
-- rule and ends whole, each word of which is that of a value, and whose items carry the value
pub record WritesDriven (known : Files) (words : DriveWords) (text : List ℕ) : Type 0 where
  pub split : PlainSplit
  pub value : PortValue
  pub plan : Plan
  pub read : HasDrive known words split value plan
  pub trace : IsDrivenText split (plain_port value) plan text

-- where the files are accepted, the answer gives the text of that trace, if it is not too long
abbrev pub AcceptedPortsAreDriven : Type 0
AcceptedPortsAreDriven = (known : Files) (project port word other : List ℕ) (split : PlainSplit) (value : PortValue) (plan : Plan) (runs : List StreamRun) →
    Accepts known (drive_words project port word other) split value plan runs →
    Says (Some known) (Some (Drive project port word other)) (output_answer (written_text (trace_of split plan.cycles runs)))
    × WritesDriven known (drive_words project port word other) (written_text (trace_of split plan.cycles runs))

-- and each text that is written is that of such a trace
abbrev pub WrittenTracesAreDriven : Type 0
WrittenTracesAreDriven = (known : Files) (project port value plan text : List ℕ) → Says (Some known) (Some (Drive project port value plan)) (answers.Done text) →
    (length text ≤ 67108864) × WritesDriven known (drive_words project port value plan) text
