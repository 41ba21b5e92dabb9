-- The streams of a trace that is legal and ends whole, as they are kept. It serves the decoder, and no public clause. This project's own.
use Rattle.std.specs.Prelude.{◌≡◌, ℕ, true, List, length, map, Option, Some, Result, Ok, Err, slice_get}
use Rattle.std.specs.List.{All}
use Rattle.physical_stream.specs.Shape.{IsNested, is_whole, tail_of}
use Rattle.physical_stream.specs.declared.item.Item.{Item}
use Rattle.physical_stream.specs.declared.item.Item.TheVariants as items
use Rattle.logical_types.specs.Tree.{Ltype}
use Rattle.logical_types.specs.Width.{width_of}
use Rattle.nest_shape.specs.declared.builder.Builder.{Builder}
use Rattle.type_split.specs.Streams.{PlainSplit}
use Rattle.type_split.specs.declared.split.Phys.{Phys}
use Rattle.logical_value.specs.Agreement.{StandsForSome}
use Rattle.logical_value.specs.Tree.{plain_port}
use Rattle.value_views.specs.Views.{Carries}
use Rattle.value_views.specs.declared.fault.JoinFault.{JoinFault}
use Rattle.value_views.specs.declared.fault.JoinFault.TheVariants as joins
use Rattle.cycle_trace.specs.declared.surveying.counts.SurveyFault.{SurveyFault}
use Rattle.cycle_trace.specs.declared.surveying.counts.SurveyFault.TheVariants as surveys
use Rattle.trace_decode.specs.Keeping.{Builds, HasDims}
use Rattle.trace_decode.specs.Outcome.{DisagreeAt}
use Rattle.trace_decode.specs.Tags.{element_at}
use Rattle.trace_decode.specs.declared.decoded.Decoded.{Decoded}
use Rattle.trace_decode.specs.declared.fault.DecodeFault.{DecodeFault}
use Rattle.trace_decode.specs.declared.fault.DecodeFault.TheVariants as faults
use Rattle.trace_decode.specs.declared.stream_kept.StreamKept.{StreamKept}

-- the error of a decoder whose survey found this
abbrev pub fault_of_survey : SurveyFault → DecodeFault
fault_of_survey (surveys.Offence cycle stream rule) = faults.Offence cycle stream rule
fault_of_survey (surveys.Unfinished stream end) = faults.Unfinished stream end
fault_of_survey surveys.Memory = faults.Memory

-- the error of a decoder whose streams are not joined
abbrev pub fault_of_join : JoinFault → DecodeFault
fault_of_join (joins.Disagree path packet) = faults.Disagree path packet
fault_of_join joins.Memory = faults.Memory

-- a builder was given these items, which are nested and whole
pub record IsBuilt (dims : ℕ) (done : List Item) (builder : Option Builder) : Type 0 where
  pub builds : Builds done builder
  pub dims_are : HasDims dims builder
  pub nested : IsNested done
  pub whole : is_whole dims (tail_of done) ≡ true

-- an element is a word of its width that stands for some value
abbrev pub IsWord : Ltype → Item → Type 0
IsWord element (items.Elem word) = (length word ≡ width_of element) × StandsForSome element word
IsWord element (items.Close dim) = Unit {0}

-- the state of a stream whose items done are these: they are nested and whole, and each element is a word that stands for some value
pub record IsFinished (phys : Phys) (element : Ltype) (done : List Item) (one : StreamKept) : Type 0 where
  pub built : IsBuilt phys.params.dims done one.builder
  pub words : All (IsWord element) done

-- the same of each stream of a split
pub record AreFinished (split : PlainSplit) (done : List (List Item)) (kept : List StreamKept) : Type 0 where
  pub many : length kept ≡ length split.streams
  pub lists : length done ≡ length split.streams
  pub each : (i : ℕ) (phys : Phys) (some : List Item) (one : StreamKept) → slice_get split.streams i ≡ Some phys → slice_get done i ≡ Some some → slice_get kept i ≡ Some one
      → IsFinished phys (element_at split i) some one

-- the value that these items carry, with the user words kept; or the first place at which they disagree. Want of memory says nothing.
abbrev pub IsJoined : PlainSplit → List (List Item) → List StreamKept → Result Decoded DecodeFault → Type 0
IsJoined split done kept (Ok decoded) = Carries split (plain_port decoded.value) done × (decoded.users ≡ map (λ (one : StreamKept). one.users) kept)
IsJoined split done kept (Err (faults.Disagree path packet)) = DisagreeAt split done (record { path = path; packet = packet })
IsJoined split done kept (Err faults.Memory) = Unit {0}
IsJoined split done kept (Err other) = ⊥
