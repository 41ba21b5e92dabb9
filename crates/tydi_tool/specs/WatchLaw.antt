-- The laws of `expect` and of `watch` (this project's own): what the monitor of a value says of a trace, by the items that are done alone.
use Rattle.std.specs.Prelude.{◌≡◌, ℕ, ◌<◌, ◌≤◌, ◌⊎◌, ◌↔◌, List, length, map, slice_get, Some, None, Ok}
use Rattle.tydi_io.specs.Store.{Files}
use Rattle.physical_stream.specs.Cycles.{StreamTrace, items_done}
use Rattle.physical_stream.specs.declared.item.Item.{Item}
use Rattle.cycle_trace.specs.Trace.{TraceText, streams_of}
use Rattle.logical_value.specs.Tree.{Tree, plain_port}
use Rattle.logical_value.specs.declared.value.PortValue.{PortValue}
use Rattle.monitor_bench.specs.Laws.{IsFirstOther}
use Rattle.monitor_bench.specs.Monitors.{monitor_of}
use Rattle.port_drive.specs.Drives.{heads_of}
use Rattle.trace_watch.specs.Watched.{watched_of}
use Rattle.trace_watch.specs.declared.watched.StreamWatched.{StreamWatched}
use Rattle.type_split.specs.Streams.{PlainSplit}
use Rattle.watch_text.specs.Reading.{watch_of}
use Rattle.watch_text.specs.Statements.{PlainWatch}
use Rattle.tydi_tool.specs.declared.answer.Answer.{Answer}
use Rattle.tydi_tool.specs.declared.answer.Answer.TheVariants as answers
use Rattle.tydi_tool.specs.Causes.{HasCarried, HasDecode, HasMonitor, HasValue, HasWatch, IsQuietText, ValueWords, WatchWords}
use Rattle.tydi_tool.specs.Commands.{Says}
use Rattle.tydi_tool.specs.Comparisons.{items_of_value}
use Rattle.tydi_tool.specs.CompareLaw.{ShowsValue}
use Rattle.tydi_tool.specs.DecodeLaw.{CarriesAlone, decode_words}
use Rattle.tydi_tool.specs.Watches.{expected_text, watched_answer, watched_lines}
use Rattle.tydi_tool.specs.Words.{Drive, Expect, Watch}

-- the words of a port and a value of it
abbrev pub expect_words : (project port value : List ℕ) → ValueWords
expect_words project port value = record { at = record { project = project; port = port }; value = value }

-- the words of a monitor and a trace
abbrev pub watch_words : (monitor trace : List ℕ) → WatchWords
watch_words monitor trace = record { monitor = monitor; trace = trace }

-- the monitor of a port that expects the items of a value
abbrev pub monitor_for : PlainSplit → PortValue → PlainWatch
monitor_for split value = monitor_of split (items_of_value split value)

-- ---- what `expect` writes

-- this is said of each stream: the first cycle by whose end the items done are no front of the expected ones; where there is none, the number of all
-- items done
pub record AreFirstOthers (wants : List (List Item)) (streams : List StreamTrace) (watched : List StreamWatched) : Type 0 where
  pub many : length watched ≡ length streams
  pub each : (stream : ℕ) (want : List Item) (s : StreamTrace) (one : StreamWatched) → slice_get wants stream ≡ Some want → slice_get streams stream ≡ Some s
      → slice_get watched stream ≡ Some one → IsFirstOther s.params want s.cycles one.report × (one.report ≡ None → one.place ≡ length (items_done s.params s.cycles))

-- A text is written for a port, each node of which is carried, and a value of it. It is that of the monitor which expects the items of the value, and
-- is read as this monitor. Over each trace with the heads of the port the monitor says of each stream where the items done first leave the expected
-- ones.
pub record WritesMonitor (known : Files) (words : ValueWords) (text : List ℕ) : Type 0 where
  pub split : PlainSplit
  pub at : HasCarried known words.at split
  pub value : PortValue
  pub value_is : HasValue known split words.value value
  pub is : text ≡ expected_text split value
  pub read : watch_of text ≡ Ok (monitor_for split value)
  pub reports : (t : TraceText) → t.heads ≡ heads_of split → AreFirstOthers (items_of_value split value) (streams_of t) (watched_of (monitor_for split value) (streams_of t))

-- each text that is written is so
abbrev pub WrittenMonitorsReport : Type 0
WrittenMonitorsReport = (known : Files) (project port value text : List ℕ) → Says (Some known) (Some (Expect project port value)) (answers.Done text)
    → (length text ≤ 67108864) × WritesMonitor known (expect_words project port value) text

-- ---- what `watch` says

-- each text that `watch` writes has a line for each stream of a monitor and a trace with its heads, no process of which sets its fault
abbrev pub WrittenLinesAreQuiet : Type 0
WrittenLinesAreQuiet = (known : Files) (monitor trace text : List ℕ) → Says (Some known) (Some (Watch monitor trace)) (answers.Done text)
    → IsQuietText known (watch_words monitor trace) text

-- what is said where all is as expected: each stream sees as many items as are expected
abbrev pub all_seen : List (List Item) → List StreamWatched
all_seen wants = map (λ (want : List Item). record { place = length want; report = None }) wants

-- the lines then: `seen M of M` of each stream
abbrev pub seen_lines : PlainSplit → PortValue → List ℕ
seen_lines split value = watched_lines (monitor_for split value) (all_seen (items_of_value split value))

-- where a monitor expects the items of a value, and a trace shows the value, the answer is that all is seen, and no other
abbrev pub ShownValuesAreSeen : Type 0
ShownValuesAreSeen = (known : Files) (monitor trace : List ℕ) (split : PlainSplit) (value : PortValue) (t : TraceText)
    → HasWatch known (watch_words monitor trace) (monitor_for split value) t → ShowsValue split value t
    → (a : Answer) → Says (Some known) (Some (Watch monitor trace)) a ↔ (a ≡ answers.Done (seen_lines split value))

-- some stream reports an edge, or has seen fewer items than are expected of it
pub record TellsLess (split : PlainSplit) (value : PortValue) (a : Answer) : Type 0 where
  pub watched : List StreamWatched
  pub said : a ≡ watched_answer (monitor_for split value) watched
  pub stream : ℕ
  pub want : List Item
  pub wanted : slice_get (items_of_value split value) stream ≡ Some want
  pub one : StreamWatched
  pub there : slice_get watched stream ≡ Some one
  pub less : ((edge : ℕ) × (one.report ≡ Some edge)) ⊎ (one.place < length want)

-- and where a trace with the heads of the port does not show the value, each answer is such
abbrev pub OtherItemsAreTold : Type 0
OtherItemsAreTold = (known : Files) (monitor trace : List ℕ) (split : PlainSplit) (value : PortValue) (t : TraceText)
    → HasWatch known (watch_words monitor trace) (monitor_for split value) t → t.heads ≡ heads_of split → (ShowsValue split value t → ⊥)
    → (a : Answer) → Says (Some known) (Some (Watch monitor trace)) a → TellsLess split value a

-- ---- `expect`, `drive` and `watch`

-- a value that was driven is seen: the answer has `seen M of M` of each stream and no verdict, and no other answer is said
pub record IsSeen (known after : Files) (words : ValueWords) (monitor trace : List ℕ) : Type 0 where
  pub split : PlainSplit
  pub at : HasCarried known words.at split
  pub value : PortValue
  pub value_is : HasValue known split words.value value
  pub said : (a : Answer) → Says (Some after) (Some (Watch monitor trace)) a ↔ (a ≡ answers.Done (seen_lines split value))

-- wherever one file holds what `expect` wrote for a value, and another what `drive` wrote for it by some plan, the value is seen
abbrev pub DrivenTracesAreSeen : Type 0
DrivenTracesAreSeen = (known after : Files) (project port value plan monitor trace text rows : List ℕ) → Says (Some known) (Some (Expect project port value)) (answers.Done text)
    → Says (Some known) (Some (Drive project port value plan)) (answers.Done rows) → after monitor ≡ Some text → after trace ≡ Some rows
    → IsSeen known after (expect_words project port value) monitor trace

-- ---- `expect`, `decode` and `watch`

-- where one file holds the text that `expect` writes for a value, and `decode` reads the trace of another as another value, some stream reports or has
-- seen fewer items
abbrev pub OtherValuesAreTold : Type 0
OtherValuesAreTold = (known : Files) (project port word trace monitor : List ℕ) (split : PlainSplit) (value : PortValue) (t : TraceText) (other : List (List Tree))
    → HasDecode known (decode_words project port trace) split t → CarriesAlone split other t → HasValue known split word value → (plain_port value ≡ other → ⊥)
    → HasMonitor known monitor (monitor_for split value)
    → (a : Answer) → Says (Some known) (Some (Watch monitor trace)) a → TellsLess split value a
