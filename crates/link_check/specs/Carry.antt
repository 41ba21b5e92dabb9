-- Traces at the two ends of a chain of nets. The streams of a port are the same at both ends, but that a stream may arrive at a higher
-- level than it comes from. This project's own.
use Rattle.std.specs.Prelude.{◌≡◌, ◌≢◌, ℕ, if◌then◌else◌, List, [], ◌∷◌, length, map, slice_get, take, Some}
use Rattle.tydi_base.specs.Level.{IsAtMost}
use Rattle.physical_stream.specs.Levels.{at_level}
use Rattle.physical_stream.specs.declared.head.Head.{Head}
use Rattle.logical_types.specs.Tree.{Ltype}
use Rattle.type_split.specs.Streams.{streams_of}
use Rattle.type_split.specs.declared.split.Phys.{Phys}
use Rattle.cycle_trace.specs.Trace.{TraceText}

-- ---- heads

-- the head of a stream where its data comes from: a reversed stream flows from the sink back to the source
abbrev pub head_from : (source sink : Head) → Head
head_from source sink = if source.reversed then sink else source

-- and the head where its data arrives
abbrev pub head_to : (source sink : Head) → Head
head_to source sink = if source.reversed then source else sink

-- the heads of all streams where their data comes from, by those of the source and of the sink
abbrev pub heads_from : (source sink : List Head) → List Head
heads_from (source ∷ more) (sink ∷ others) = head_from source sink ∷ heads_from more others
heads_from more others = []

-- the heads of all streams where their data arrives
abbrev pub heads_to : (source sink : List Head) → List Head
heads_to (source ∷ more) (sink ∷ others) = head_to source sink ∷ heads_to more others
heads_to more others = []

-- two heads are one, but for their levels
pub record IsAlike (from to : Head) : Type 0 where
  pub path : to.path ≡ from.path
  pub params : to.params ≡ at_level to.params.level from.params
  pub reversed : to.reversed ≡ from.reversed

-- two lists have as many heads, and each head of the one is that of the other, but for its level
pub record AreAlike (from to : List Head) : Type 0 where
  pub many : length to ≡ length from
  pub each : (stream : ℕ) (one other : Head) → slice_get from stream ≡ Some one → slice_get to stream ≡ Some other → IsAlike one other

-- the level of no stream falls: that of each head is at most that of the other
abbrev pub LevelsRise : (from to : List Head) → Type 0
LevelsRise from to = (stream : ℕ) (one other : Head) → slice_get from stream ≡ Some one → slice_get to stream ≡ Some other → IsAtMost one.params.level other.params.level

-- this is the first stream whose level falls
pub record FirstFalls (from to : List Head) (stream : ℕ) : Type 0 where
  pub one : Head
  pub other : Head
  pub here : slice_get from stream ≡ Some one
  pub there : slice_get to stream ≡ Some other
  pub falls : IsAtMost one.params.level other.params.level → ⊥
  pub before : LevelsRise (take stream from) (take stream to)

-- ---- the trace that arrives

-- the trace that arrives under these heads: the same cycles. A signal that only the new heads have stands at its default, where a trace
-- has each signal that a stream lacks.
abbrev pub carried : List Head → TraceText → TraceText
carried heads t = record { cycles = t.cycles; heads = heads; rows = t.rows }

-- this is the first stream whose head is another one; where one list is shorter, it is the length of that list
pub record FirstOther (heads others : List Head) (stream : ℕ) : Type 0 where
  pub before : take stream heads ≡ take stream others
  pub here : slice_get heads stream ≢ slice_get others stream

-- ---- ports

-- the head of a physical stream
abbrev pub head_of_stream : Phys → Head
head_of_stream stream = record { path = stream.path; params = stream.params; reversed = stream.reversed }

-- the heads of the physical streams of a port's type
abbrev pub heads_of_port : Ltype → List Head
heads_of_port ltype = map head_of_stream (streams_of ltype)
