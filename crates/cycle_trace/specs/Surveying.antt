-- The survey of a trace, row by row (this project's own).
use Rattle.std.specs.Prelude.{◌≡◌, ℕ, ◌+◌, ◌*◌, ◌<◌, ◌≤◌, List, [], length, Option, Some, None, slice_get}
use Rattle.physical_stream.specs.Cycles.{StreamTrace}
use Rattle.physical_stream.specs.First.{Offence, Offends, IsFirst}
use Rattle.physical_stream.specs.declared.head.Head.{Head}
use Rattle.physical_stream.specs.declared.head.Header.{Header}
use Rattle.complexity_rules.specs.Checking.{StandsFor, params_in}
use Rattle.complexity_rules.specs.declared.checker.Checker.{Checker}
use Rattle.cycle_trace.specs.Trace.{TraceText, most_cycles, streams_of}
use Rattle.cycle_trace.specs.Survey.{UnfinishedStream}
use Rattle.cycle_trace.specs.declared.surveying.outcome.FoundOffence.{FoundOffence}
use Rattle.cycle_trace.specs.declared.surveying.outcome.FoundUnfinished.{FoundUnfinished}

abbrev pub offence_of : FoundOffence → Offence
offence_of found = record { cycle = found.cycle; stream = found.stream; rule = found.rule }

abbrev pub unfinished_of : FoundUnfinished → UnfinishedStream
unfinished_of found = record { stream = found.stream; end = found.end }

-- a checker stands for the cycles of this stream so far
pub record IsChecked (s : StreamTrace) (checker : Checker) : Type 0 where
  pub params : params_in checker ≡ s.params
  pub stands : StandsFor checker s.cycles

-- there is such a checker for each stream
pub record AreChecked (streams : List StreamTrace) (checkers : List Checker) : Type 0 where
  pub many : length checkers ≡ length streams
  pub each : (i : ℕ) (s : StreamTrace) (checker : Checker) → slice_get streams i ≡ Some s → slice_get checkers i ≡ Some checker → IsChecked s checker

-- the stream of a head, of which no cycle has come
abbrev pub unseen : Head → StreamTrace
unseen head = record { params = head.params; cycles = [] }

-- the offences of a trace by rules 1 to 10
abbrev pub offends_in : TraceText → Offence → Type 0
offends_in t = Offends (streams_of t)

-- the answer for the rows so far: there is no offence, and the checkers stand for the rows; or this is the first offence
abbrev pub RowsSay : (Offence → Type 0) → TraceText → List Checker → Option FoundOffence → Type 0
RowsSay Offends t checkers None = AreChecked (streams_of t) checkers × IsFirst Offends None
RowsSay Offends t checkers (Some found) = IsFirst Offends (Some (offence_of found))

-- the next row is that of this stream in this cycle
pub record IsNextRow (t : TraceText) (cycle stream : ℕ) : Type 0 where
  pub place : length t.rows ≡ cycle * length t.heads + stream
  pub within : 0 < length t.heads → stream < length t.heads

-- the state that a survey keeps of a header and the rows so far
pub record SurveysRows (t : TraceText) (header : Header) (checkers : List Checker) (cycle stream : ℕ) (found : Option FoundOffence) : Type 0 where
  pub cycles : header.cycles ≡ t.cycles
  pub heads : header.heads ≡ t.heads
  pub few : t.cycles ≤ most_cycles
  pub next : IsNextRow t cycle stream
  pub says : RowsSay (offends_in t) t checkers found
