-- The answer of a monitor for the text of a trace (this project's own).
use Rattle.std.specs.Prelude.{◌≡◌, ℕ, List, Option, Some, None, IfSome, Result, Ok, Err}
use Rattle.std.specs.Option.{option_map}
use Rattle.cycle_trace.specs.Faults.{fault_in}
use Rattle.cycle_trace.specs.ReaderView.{IsSpent, StandsFor}
use Rattle.cycle_trace.specs.Trace.{TraceText, streams_of}
use Rattle.cycle_trace.specs.TraceText.{trace_of}
use Rattle.cycle_trace.specs.declared.fault.TraceFault.{TraceFault}
use Rattle.trace_decode.specs.Outcome.{DifferFirst}
use Rattle.watch_text.specs.Statements.{PlainWatch}
use Rattle.trace_watch.specs.Standing.{WatcherStands, watch_in}
use Rattle.trace_watch.specs.Watched.{watched_of}
use Rattle.trace_watch.specs.declared.fault.WatchTraceFault.{WatchTraceFault}
use Rattle.trace_watch.specs.declared.fault.WatchTraceFault.TheVariants as faults
use Rattle.trace_watch.specs.declared.text_watcher.TextWatcher.{TextWatcher}
use Rattle.trace_watch.specs.declared.watched.StreamWatched.{StreamWatched}

-- the thing that is said of a text: its first error, the first place at which its heads are not those of the monitor, or the answer of each process
pub data Watching : Type 0 where
  Misspelled : TraceFault → Watching
  OtherHeader : ℕ → Watching
  Watched : List StreamWatched → Watching

-- what is said of a trace
abbrev pub IsWatchingOf : PlainWatch → TraceText → Watching → Type 0
IsWatchingOf watch t (Misspelled fault) = ⊥
IsWatchingOf watch t (OtherHeader place) = DifferFirst t.heads watch.heads place
IsWatchingOf watch t (Watched streams) = (t.heads ≡ watch.heads) × (streams ≡ watched_of watch (streams_of t))

-- what is said of a text. An error of the text comes before the heads, and these before the items.
abbrev pub IsWatching : PlainWatch → List ℕ → Watching → Type 0
IsWatching watch bytes (Misspelled fault) = trace_of bytes ≡ Err fault
IsWatching watch bytes (OtherHeader place) = (t : TraceText) × ((trace_of bytes ≡ Ok t) × IsWatchingOf watch t (OtherHeader place))
IsWatching watch bytes (Watched streams) = (t : TraceText) × ((trace_of bytes ≡ Ok t) × IsWatchingOf watch t (Watched streams))

-- what an error reports; want of memory is nothing
abbrev pub watching_of_fault : WatchTraceFault → Option Watching
watching_of_fault (faults.Misspelled fault) = option_map Misspelled (fault_in fault)
watching_of_fault (faults.OtherHeader place) = Some (OtherHeader place)
watching_of_fault faults.Memory = None

-- the answer for a trace; want of memory says nothing
abbrev pub IsWatchedTrace : PlainWatch → TraceText → Result (List StreamWatched) WatchTraceFault → Type 0
IsWatchedTrace watch t (Ok streams) = IsWatchingOf watch t (Watched streams)
IsWatchedTrace watch t (Err (faults.Misspelled fault)) = ⊥
IsWatchedTrace watch t (Err (faults.OtherHeader place)) = IsWatchingOf watch t (OtherHeader place)
IsWatchedTrace watch t (Err faults.Memory) = Unit {0}

-- the answer for a text; want of memory says nothing
abbrev pub IsWatchedText : PlainWatch → List ℕ → Result (List StreamWatched) WatchTraceFault → Type 0
IsWatchedText watch bytes (Ok streams) = IsWatching watch bytes (Watched streams)
IsWatchedText watch bytes (Err fault) = IfSome (watching_of_fault fault) (IsWatching watch bytes)

-- ---- the contracts of a watcher of texts

-- the monitor that it was made with
abbrev pub watch_of_watcher : TextWatcher → PlainWatch
watch_of_watcher watcher = watch_in watcher.reader.sink

-- it was fed these bytes
abbrev pub IsFed : TextWatcher → List ℕ → Type 0
IsFed watcher bytes = StandsFor WatcherStands watcher.reader bytes

-- memory ran out
abbrev pub HasNoMemory : TextWatcher → Type 0
HasNoMemory watcher = IsSpent watcher.reader
