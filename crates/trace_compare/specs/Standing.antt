-- The rows that a comparer stands for (this project's own). It serves the comparer, and no public clause but by `OneForEach`.
use Rattle.std.specs.Prelude.{◌≡◌, ℕ, ◌*◌, ◌≤◌, List, length, Option, Some, None, IfSome, slice_get}
use Rattle.std.specs.List.{All}
use Rattle.physical_stream.specs.Cycles.{Cycle, StreamTrace}
use Rattle.physical_stream.specs.Signals.{Fits}
use Rattle.physical_stream.specs.declared.item.Item.{Item}
use Rattle.type_split.specs.Streams.{PlainSplit, plain_split}
use Rattle.type_split.specs.declared.split.Phys.{Phys}
use Rattle.cycle_trace.specs.Trace.{TraceText, most_cycles, streams_of}
use Rattle.port_drive.specs.Drives.{heads_of}
use Rattle.trace_decode.specs.Outcome as decode
use Rattle.trace_compare.specs.Differences.{IsCompared}
use Rattle.trace_compare.specs.Keeping.{ComparesStream, IsFresh, TakesCycle}
use Rattle.trace_compare.specs.declared.compare_run.CompareRun.{CompareRun}
use Rattle.trace_compare.specs.declared.comparer.Comparer.{Comparer}
use Rattle.trace_compare.specs.declared.comparer.Stage.{Stage}
use Rattle.trace_compare.specs.declared.comparer.Stage.TheVariants as stages
use Rattle.trace_compare.specs.declared.difference.Difference.{Difference}
use Rattle.trace_compare.specs.declared.stream_compared.StreamCompared.{StreamCompared}

-- ---- all streams

-- there is a state and a list of expected items for each stream, and the state is that of all its cycles
pub record AreStates (wants : List (List Item)) (streams : List StreamTrace) (states : List StreamCompared) : Type 0 where
  pub many : length states ≡ length streams
  pub lists : length wants ≡ length streams
  pub each : (i : ℕ) (want : List Item) (s : StreamTrace) (state : StreamCompared) → slice_get wants i ≡ Some want → slice_get streams i ≡ Some s
      → slice_get states i ≡ Some state → ComparesStream want s state

-- so many states, of which each is fresh
pub record AreFresh (streams : ℕ) (states : List StreamCompared) : Type 0 where
  pub many : length states ≡ streams
  pub each : All IsFresh states

-- the state kept of a header that is the split's, and the rows so far
pub record RunsOver (split : PlainSplit) (wants : List (List Item)) (t : TraceText) (run : CompareRun) : Type 0 where
  pub heads : t.heads ≡ heads_of split
  pub cycles : t.cycles ≤ most_cycles
  pub streams : length t.heads ≤ 65536
  pub rows : run.rows ≡ length t.rows
  pub most : length t.rows ≤ t.cycles * length t.heads
  pub states : AreStates wants (streams_of t) run.states.items

-- what is known of the stream of this number: its physical stream, the items that are expected of it, and its state
pub record HasStream (split : PlainSplit) (wants : List (List Item)) (states : List StreamCompared) (stream : ℕ) : Type 0 where
  pub phys : Phys
  pub there : slice_get split.streams stream ≡ Some phys
  pub want : List Item
  pub wanted : slice_get wants stream ≡ Some want
  pub state : StreamCompared
  pub found : slice_get states stream ≡ Some state
  pub within : state.same ≤ length want

-- ---- one row more

-- the stream of this number can take a row
pub record CanTakeRow (split : PlainSplit) (wants : List (List Item)) (stream : ℕ) (states : List StreamCompared) (row : Cycle) : Type 0 where
  pub has : HasStream split wants states stream
  pub shown : IfSome row.shown (Fits has.phys.params)

-- the state of the stream of this number has one cycle more, and those of the others are as they were
pub record TakesRow (split : PlainSplit) (wants : List (List Item)) (stream cycle : ℕ) (row : Cycle) (old new : List StreamCompared) : Type 0 where
  pub many : length new ≡ length old
  pub others : (i : ℕ) → (i ≡ stream → ⊥) → slice_get new i ≡ slice_get old i
  pub takes : (phys : Phys) (want : List Item) (state next : StreamCompared) → slice_get split.streams stream ≡ Some phys → slice_get wants stream ≡ Some want
      → slice_get old stream ≡ Some state → slice_get new stream ≡ Some next → TakesCycle want phys.params cycle row state next

-- ---- the differences

-- the first difference of the stream of this number, or none, for all cycles that its state may stand for
abbrev pub TellsStream : PlainSplit → List (List Item) → List StreamCompared → ℕ → Option Difference → Type 0
TellsStream split wants states stream first =
    (phys : Phys) (want : List Item) (state : StreamCompared) (s : StreamTrace) → slice_get split.streams stream ≡ Some phys
    → slice_get wants stream ≡ Some want → slice_get states stream ≡ Some state → s.params ≡ phys.params → ComparesStream want s state → IsCompared stream want s first

-- ---- the comparer

abbrev pub StageStands : PlainSplit → List (List Item) → Stage → Option TraceText → Type 0
StageStands split wants stages.Fresh None = Unit {0}
StageStands split wants stages.Fresh (Some t) = ⊥
StageStands split wants (stages.Other place) None = ⊥
StageStands split wants (stages.Other place) (Some t) = decode.DifferFirst t.heads (heads_of split) place
StageStands split wants (stages.Rows run) None = ⊥
StageStands split wants (stages.Rows run) (Some t) = RunsOver split wants t run

-- a list of expected items for each stream of a port
abbrev pub OneForEach : PlainSplit → List (List Item) → Type 0
OneForEach split wants = length wants ≡ length split.streams

-- what a comparer was made with: the split of a port, and the expected items of each stream
pub record Asked : Type 0 where
  pub split : PlainSplit
  pub wants : List (List Item)

abbrev pub asked_of : Comparer → Asked
asked_of comparer = record { split = plain_split comparer.split.now; wants = comparer.wants }

-- a comparer stands for nothing, or for this header and the rows so far
pub record ComparerStands (comparer : Comparer) (said : Option TraceText) : Type 0 where
  pub lists : OneForEach (plain_split comparer.split.now) comparer.wants
  pub stage : StageStands (plain_split comparer.split.now) comparer.wants comparer.stage said
