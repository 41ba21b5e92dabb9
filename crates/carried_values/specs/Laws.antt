-- The laws of values that a trace carries from one end of a chain of nets to the other. This project's own.
use Rattle.std.specs.Prelude.{◌≡◌, ◌↔◌, ℕ, Bool, true, false, List, Some, None, slice_get}
use Rattle.physical_stream.specs.declared.head.Head.{Head}
use Rattle.logical_types.specs.Tree.{Ltype}
use Rattle.type_split.specs.Streams.{clash_of, split_of}
use Rattle.logical_value.specs.Tree.{Tree}
use Rattle.value_views.specs.Views.{Carries}
use Rattle.cycle_trace.specs.Survey.{first_unfinished}
use Rattle.cycle_trace.specs.Surveying.{offends_in}
use Rattle.cycle_trace.specs.Trace.{IsTrace, TraceText, streams_of}
use Rattle.physical_stream.specs.Cycles.{StreamTrace}
use Rattle.port_drive.specs.Laws.{done_on}
use Rattle.trace_decode.specs.Outcome.{Carried, IsOutcome}
use Rattle.trace_decode.specs.Tags.{OffendsWithTags}
use Rattle.physical_stream.specs.First.{IsFirst}
use Rattle.link_check.specs.Carry.{carried, heads_from, heads_of_port, heads_to}
use Rattle.link_check.specs.CarryLaws.{IsSameStream}
use Rattle.link_check.specs.Compatible.{Compatible}
use Rattle.carried_values.specs.WithoutLevels.{without_levels}

-- ---- types

-- compatible types are one type, levels aside
abbrev pub CompatibleTypesAreOne : Type 0
CompatibleTypesAreOne = (reversed : Bool) (source sink : Ltype) → Compatible reversed source sink → without_levels source ≡ without_levels sink

-- the streams of compatible ports clash on the same path, or those of neither clash
abbrev pub CompatiblePortsClash : Type 0
CompatiblePortsClash = (source sink : Ltype) → Compatible false source sink → clash_of sink ≡ clash_of source

-- ---- values

-- a trace of a source's port, and the trace that arrives of it at a sink's: the types of the ports are compatible
pub record Arrives (source sink : Ltype) (t arrived : TraceText) : Type 0 where
  pub compatible : Compatible false source sink
  pub trace : IsTrace t
  pub from : t.heads ≡ heads_from (heads_of_port source) (heads_of_port sink)
  pub to : arrived ≡ carried (heads_to (heads_of_port source) (heads_of_port sink)) t

-- the streams that flow back from the sink have one level at both ends
abbrev pub HaveOneLevelBack : (source sink : Ltype) → Type 0
HaveOneLevelBack source sink = (stream : ℕ) (one other : Head) → slice_get (heads_of_port source) stream ≡ Some one
    → slice_get (heads_of_port sink) stream ≡ Some other
    → one.reversed ≡ true → one.params.level ≡ other.params.level

-- a trace arrives as what was sent, seen by the types of both ends
pub record ArrivesWhole (source sink : Ltype) (t arrived : TraceText) : Type 0 where
  -- it is a trace
  pub trace : IsTrace arrived
  -- each stream has the same cycles, with valid and ready, the same items done in each cycle, and the same ending
  pub streams : (stream : ℕ) (one other : StreamTrace) → slice_get (streams_of t) stream ≡ Some one → slice_get (streams_of arrived) stream ≡ Some other
      → IsSameStream one other
  -- where it had no offence it has none, by rules 1 to 10, and by rules 1 to 11
  pub legal : IsFirst (offends_in t) None → IsFirst (offends_in arrived) None
  pub legal_with_tags : IsFirst (OffendsWithTags (split_of source) t) None → IsFirst (OffendsWithTags (split_of sink) arrived) None
  -- the first stream that does not end whole, if there is one, is the same
  pub endings : first_unfinished 0 (streams_of arrived) ≡ first_unfinished 0 (streams_of t)
  -- the items done carry the same values, each end by its own type
  pub values : (roots : List (List Tree)) → Carries (split_of source) roots (done_on (streams_of t)) ↔ Carries (split_of sink) roots
      (done_on (streams_of arrived))
  -- where the levels of the streams that flow back are equal, it is decoded as what was sent, wherever that is decoded as a value with its user words
  pub decoded : HaveOneLevelBack source sink → (roots : List (List Tree)) (users : List (List (List Bool)))
      → IsOutcome (split_of source) t (Carried roots users)
      → IsOutcome (split_of sink) arrived (Carried roots users)

abbrev pub TracesArriveWhole : Type 0
TracesArriveWhole = (source sink : Ltype) (t arrived : TraceText) → Arrives source sink t arrived → ArrivesWhole source sink t arrived
