-- The text of the trace that drives a port (this project's own).
use Rattle.std.specs.Prelude.{◌≡◌, ℕ, true, List, All, Result, Ok}
use Rattle.tydi_base.specs.Reading.{◌>>=◌}
use Rattle.physical_stream.specs.StreamLine.{IsHead}
use Rattle.cycle_trace.specs.Spelling.{trace_text}
use Rattle.cycle_trace.specs.Trace.{IsTrace, TraceText, are_heads, streams_of}
use Rattle.cycle_trace.specs.TraceText as reading
use Rattle.cycle_trace.specs.Version.{version_of}
use Rattle.type_split.specs.Streams.{IsPortSplit, PlainSplit}
use Rattle.logical_value.specs.Fits.{fits_split}
use Rattle.logical_value.specs.Tree.{Tree}
use Rattle.plan_text.specs.Laws.{FitsPort}
use Rattle.plan_text.specs.declared.plan.Plan.{Plan}
use Rattle.handshake.specs.Rows.{StreamRun}
use Rattle.port_drive.specs.Drives.{Undriven, drive_of, heads_of}
use Rattle.port_drive.specs.Laws.{IsDriven, trace_of}
use Rattle.port_drive.specs.Words.{HaveValues}

-- the text of a trace as it is written: in the first version where each level has one number, else in the second
abbrev pub written_text : TraceText → List ℕ
written_text t = trace_text (version_of t.heads) t

-- the text of the trace of the runs that drive a port, or why it is not driven
abbrev pub drive_text : PlainSplit → List (List Tree) → Plan → Result (List ℕ) Undriven
drive_text split value plan = drive_of split value plan.streams >>= λ runs. Ok (written_text (trace_of split plan.cycles runs))

-- the heads of the streams of a port: each is in form, as each split that is a value of the type `Split` has them
abbrev pub AreHeadsInForm : PlainSplit → Type 0
AreHeadsInForm split = All IsHead (heads_of split)

-- the heads of the streams of a port can stand in one trace
abbrev pub PortHeadsStandTogether : Type 0
PortHeadsStandTogether = (split : PlainSplit) → IsPortSplit split → AreHeadsInForm split → are_heads (heads_of split) ≡ true

-- a value of the type of a port, and a plan of its streams, whose heads are in form
pub record MayDrive (split : PlainSplit) (value : List (List Tree)) (plan : Plan) : Type 0 where
  pub port : IsPortSplit split
  pub heads : AreHeadsInForm split
  pub value_fits : fits_split split value ≡ true
  pub plan_fits : FitsPort split.streams plan

-- the text is that of the runs that drive the port, whose words are those of values; it is a trace's, and is read as no other trace
pub record IsDrivenText (split : PlainSplit) (value : List (List Tree)) (plan : Plan) (text : List ℕ) : Type 0 where
  pub runs : List StreamRun
  pub drives : drive_of split value plan.streams ≡ Ok runs
  pub driven : IsDriven split value plan runs
  pub words : HaveValues split (streams_of (trace_of split plan.cycles runs))
  pub is_trace : IsTrace (trace_of split plan.cycles runs)
  pub text_is : text ≡ written_text (trace_of split plan.cycles runs)
  pub read : reading.trace_of text ≡ Ok (trace_of split plan.cycles runs)

-- each text that a value and a plan drive is the text of such a trace
abbrev pub DrivenTextsAreTraces : Type 0
DrivenTextsAreTraces = (split : PlainSplit) (value : List (List Tree)) (plan : Plan) (text : List ℕ) →
    MayDrive split value plan → drive_text split value plan ≡ Ok text → IsDrivenText split value plan text
