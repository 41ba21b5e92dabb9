-- The outcome of a trace against a port's type (this project's own).
use Rattle.std.specs.Prelude.{◌≡◌, ℕ, Bool, List, [], if◌then◌else◌, length, map, take, Option, Some, None, IfSome, Result, Ok, Err, slice_get}
use Rattle.physical_stream.specs.Cycles.{Cycle, StreamTrace, done_of}
use Rattle.physical_stream.specs.First.{IsFirst, Offence}
use Rattle.physical_stream.specs.Signals.{has_user}
use Rattle.physical_stream.specs.declared.head.Head.{Head}
use Rattle.physical_stream.specs.declared.item.Item.{Item}
use Rattle.physical_stream.specs.declared.transfer.Transfer.{Transfer}
use Rattle.type_split.specs.Streams.{PlainSplit}
use Rattle.type_split.specs.declared.split.Phys.{Phys}
use Rattle.nest_shape.specs.Flat.{HaveDepth, flat_all}
use Rattle.nest_shape.specs.Tree.{trees_of}
use Rattle.nest_shape.specs.Tree as nests
use Rattle.logical_value.specs.Tree.{Tree, plain_port}
use Rattle.value_views.specs.Comparing.{Disagreement, disagreement_of}
use Rattle.value_views.specs.Views.{Carries}
use Rattle.cycle_trace.specs.Survey.{UnfinishedStream, first_unfinished}
use Rattle.cycle_trace.specs.Trace.{TraceText, streams_of}
use Rattle.port_drive.specs.Drives.{heads_of}
use Rattle.port_drive.specs.Laws.{done_on}
use Rattle.trace_decode.specs.Tags.{OffendsWithTags}
use Rattle.trace_decode.specs.declared.decoded.Decoded.{Decoded}
use Rattle.trace_decode.specs.declared.fault.DecodeFault.{DecodeFault}
use Rattle.trace_decode.specs.declared.fault.DecodeFault.TheVariants as faults

-- the user words of the transfers done
abbrev pub users_done : List Cycle → List (List Bool)
users_done cycles = map (λ (t : Transfer). t.user) (done_of cycles)

-- the user words of a stream: those of the transfers done, where it has bits for them, and else none
abbrev pub users_of : StreamTrace → List (List Bool)
users_of s = if has_user s.params then users_done s.cycles else []

-- the same of each stream of a trace
abbrev pub users_on : List StreamTrace → List (List (List Bool))
users_on streams = map users_of streams

-- two lists of heads differ first at this place: they are the same before it, and there they have different heads, or one of them ends
pub record DifferFirst (one other : List Head) (place : ℕ) : Type 0 where
  pub same : take place one ≡ take place other
  pub differ : slice_get one place ≡ slice_get other place → ⊥

-- nests of the dimensionality of a stream, whose flat form these items are
pub record IsViewOf (phys : Phys) (view : List nests.Tree) (done : List Item) : Type 0 where
  pub depth : HaveDepth phys.params.dims (trees_of view)
  pub flat_is : flat_all phys.params.dims (trees_of view) ≡ done

-- views of the physical streams of a split, whose flat forms are the items of each
pub record AreViewsOf (split : PlainSplit) (views : List (List nests.Tree)) (done : List (List Item)) : Type 0 where
  pub many : length views ≡ length split.streams
  pub lists : length done ≡ length split.streams
  pub each : (stream : ℕ) (phys : Phys) (view : List nests.Tree) (items : List Item) → slice_get split.streams stream ≡ Some phys → slice_get views stream ≡ Some view
      → slice_get done stream ≡ Some items → IsViewOf phys view items

-- the views that the items done spell are not those of one value, first at this place
pub record DisagreeAt (split : PlainSplit) (done : List (List Item)) (place : Disagreement) : Type 0 where
  pub views : List (List nests.Tree)
  pub spelled : AreViewsOf split views done
  pub first : disagreement_of split views ≡ Some place

-- the outcome: the first head that is another, the first offence, the first stream that does not end whole, the first place at which the streams disagree,
-- or the value that is carried and the user words
pub data Outcome : Type 0 where
  OtherHeader : ℕ → Outcome
  Offends : Offence → Outcome
  Unfinished : UnfinishedStream → Outcome
  Disagrees : Disagreement → Outcome
  Carried : List (List Tree) → List (List (List Bool)) → Outcome

-- the trace has the heads of the split, and no offence
pub record IsLegal (split : PlainSplit) (t : TraceText) : Type 0 where
  pub heads : t.heads ≡ heads_of split
  pub first : IsFirst (OffendsWithTags split t) None

-- and each stream ends whole
pub record IsWhole (split : PlainSplit) (t : TraceText) : Type 0 where
  pub legal : IsLegal split t
  pub ends : first_unfinished 0 (streams_of t) ≡ None

-- the outcome of a trace against a split
abbrev pub IsOutcome : PlainSplit → TraceText → Outcome → Type 0
IsOutcome split t (OtherHeader place) = DifferFirst t.heads (heads_of split) place
IsOutcome split t (Offends first) = (t.heads ≡ heads_of split) × IsFirst (OffendsWithTags split t) (Some first)
IsOutcome split t (Unfinished first) = IsLegal split t × (first_unfinished 0 (streams_of t) ≡ Some first)
IsOutcome split t (Disagrees place) = IsWhole split t × DisagreeAt split (done_on (streams_of t)) place
IsOutcome split t (Carried roots users) = IsWhole split t × (Carries split roots (done_on (streams_of t)) × (users ≡ users_on (streams_of t)))

-- the outcome that an error reports; want of memory is none
abbrev pub outcome_of_fault : DecodeFault → Option Outcome
outcome_of_fault (faults.OtherHeader stream) = Some (OtherHeader stream)
outcome_of_fault (faults.Offence cycle stream rule) = Some (Offends (record { cycle = cycle; stream = stream; rule = rule }))
outcome_of_fault (faults.Unfinished stream end) = Some (Unfinished (record { stream = stream; end = end }))
outcome_of_fault (faults.Disagree path packet) = Some (Disagrees (record { path = path; packet = packet }))
outcome_of_fault faults.Memory = None

-- the answer is the outcome; want of memory says nothing
abbrev pub IsDecoded : PlainSplit → TraceText → Result Decoded DecodeFault → Type 0
IsDecoded split t (Ok decoded) = IsOutcome split t (Carried (plain_port decoded.value) decoded.users)
IsDecoded split t (Err fault) = IfSome (outcome_of_fault fault) (IsOutcome split t)
