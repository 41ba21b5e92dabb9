-- The rows that a decoder stands for (this project's own).
use Rattle.std.specs.Prelude.{◌≡◌, ℕ, ◌+◌, ◌*◌, ◌≤◌, false, List, length, Option, Some, None, slice_get}
use Rattle.physical_stream.specs.Cycles.{Cycle, StreamTrace}
use Rattle.physical_stream.specs.declared.head.Head.{Head}
use Rattle.physical_stream.specs.declared.rule.Rule.TheVariants.{Tag}
use Rattle.type_split.specs.Carried.{uncarried_of}
use Rattle.type_split.specs.Streams.{IsPortSplit, PlainSplit, plain_split}
use Rattle.cycle_trace.specs.SurveyorView.{SurveyorStands}
use Rattle.cycle_trace.specs.Trace.{TraceText, most_cycles, streams_of}
use Rattle.cycle_trace.specs.declared.surveying.outcome.FoundOffence.{FoundOffence}
use Rattle.port_drive.specs.Drives.{heads_of}
use Rattle.trace_decode.specs.Keeping.{KeepsStream, are_named_in}
use Rattle.trace_decode.specs.Outcome.{DifferFirst}
use Rattle.trace_decode.specs.Tagged.{AreTagged}
use Rattle.trace_decode.specs.Tags.{element_at}
use Rattle.trace_decode.specs.declared.decode_run.DecodeRun.{DecodeRun}
use Rattle.trace_decode.specs.declared.decoder.Decoder.{Decoder}
use Rattle.trace_decode.specs.declared.decoder.Stage.{Stage}
use Rattle.trace_decode.specs.declared.decoder.Stage.TheVariants as stages
use Rattle.trace_decode.specs.declared.stream_kept.StreamKept.{StreamKept}

-- there is something kept of each stream, and it is kept of all its cycles
pub record AreKept (streams : List StreamTrace) (kept : List StreamKept) : Type 0 where
  pub many : length kept ≡ length streams
  pub each : (i : ℕ) (s : StreamTrace) (one : StreamKept) → slice_get streams i ≡ Some s → slice_get kept i ≡ Some one → KeepsStream s one

-- in the row of this stream in this cycle a tag that is read names no variant
pub record HasBadTag (split : PlainSplit) (t : TraceText) (cycle stream : ℕ) : Type 0 where
  pub head : Head
  pub there : slice_get t.heads stream ≡ Some head
  pub row : Cycle
  pub stands : slice_get t.rows (cycle * length t.heads + stream) ≡ Some row
  pub unnamed : are_named_in (element_at split stream) head.params row ≡ false

-- the first such row of the rows so far, in their order
pub record IsFirstTag (split : PlainSplit) (t : TraceText) (found : FoundOffence) : Type 0 where
  pub rule : found.rule ≡ Tag
  pub bad : HasBadTag split t found.cycle found.stream
  pub first : (cycle stream : ℕ) → HasBadTag split t cycle stream → found.cycle * length t.heads + found.stream ≤ cycle * length t.heads + stream

-- the first row with such a tag, or none
abbrev pub TagsSay : PlainSplit → TraceText → Option FoundOffence → Type 0
TagsSay split t None = (cycle stream : ℕ) → HasBadTag split t cycle stream → ⊥
TagsSay split t (Some found) = IsFirstTag split t found

-- the state kept of a header that is the split's, and the rows so far
pub record RunsOver (split : PlainSplit) (t : TraceText) (run : DecodeRun) : Type 0 where
  pub heads : t.heads ≡ heads_of split
  pub surveyed : SurveyorStands run.surveyor (Some t)
  pub cycles : t.cycles ≤ most_cycles
  pub streams : length t.heads ≤ 65536
  pub rows : run.rows ≡ length t.rows
  pub most : length t.rows ≤ t.cycles * length t.heads
  pub kept : AreKept (streams_of t) run.kept.items
  pub tag : TagsSay split t run.tag
  pub tagged : AreTagged split run.tagged.items

abbrev pub StageStands : PlainSplit → Stage → Option TraceText → Type 0
StageStands split stages.Fresh None = Unit {0}
StageStands split stages.Fresh (Some t) = ⊥
StageStands split (stages.Other place) None = ⊥
StageStands split (stages.Other place) (Some t) = DifferFirst t.heads (heads_of split) place
StageStands split (stages.Rows run) None = ⊥
StageStands split (stages.Rows run) (Some t) = RunsOver split t run

-- ---- the contracts of a decoder

-- a port's split of which each node is carried, so that the items done may be joined to a value
pub record CanDecode (split : PlainSplit) : Type 0 where
  pub port : IsPortSplit split
  pub carried : uncarried_of split ≡ None

-- the split of a decoder
abbrev pub split_in : Decoder → PlainSplit
split_in decoder = plain_split decoder.split.now

-- a decoder stands for nothing, or for this header and the rows so far
pub record DecoderStands (decoder : Decoder) (said : Option TraceText) : Type 0 where
  pub can : CanDecode (split_in decoder)
  pub stage : StageStands (split_in decoder) decoder.stage said
