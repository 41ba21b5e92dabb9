-- How the text of a monitor is read, what a monitor says of a trace, and the answers of `expect` and of `watch` (this project's own).
use Rattle.std.specs.Prelude.{◌≡◌, ℕ, suc, ◌++◌, Bool, true, false, List, [], ◌∷◌, length, Option, Some, None, Result, Ok, Err, codes, decimal}
use Rattle.std.specs.List.{All, list_any, slice_index_or}
use Rattle.std.specs.Option.{is_some}
use Rattle.tydi_base.specs.Path.{path_text}
use Rattle.cycle_trace.specs.Trace.{TraceText}
use Rattle.cycle_trace.specs.TraceText.{trace_of}
use Rattle.cycle_trace.specs.declared.fault.TraceFault.{TraceFault}
use Rattle.logical_value.specs.declared.value.PortValue.{PortValue}
use Rattle.monitor_bench.specs.Monitors.{monitor_of}
use Rattle.trace_watch.specs.Texts.{IsFed, IsWatchingOf, Misspelled, OtherHeader, Watched, Watching, watch_of_watcher}
use Rattle.trace_watch.specs.declared.watched.StreamWatched.{StreamWatched}
use Rattle.type_split.specs.Streams.{PlainSplit}
use Rattle.vhdl_text.specs.Text.{◌⁀◌}
use Rattle.watch_text.specs.Reading.{watch_of}
use Rattle.watch_text.specs.Statements.{PlainWatch}
use Rattle.watch_text.specs.Text.{watch_text}
use Rattle.tydi_tool.specs.declared.answer.Answer.{Answer}
use Rattle.tydi_tool.specs.declared.answer.Answer.TheVariants as answers
use Rattle.tydi_tool.specs.declared.watch_file.WatchFile.{WatchFile}
use Rattle.tydi_tool.specs.declared.watch_file.Seeing.{Seeing}
use Rattle.tydi_tool.specs.declared.watch_file.Seeing.TheVariants as findings
use Rattle.tydi_tool.specs.Comparisons.{items_of_value}
use Rattle.tydi_tool.specs.Decodes.{other_header}
use Rattle.tydi_tool.specs.Outcome.{output_answer}
use Rattle.tydi_tool.specs.Reading.{ReadsResult, RefusesBy, Seen}
use Rattle.tydi_tool.specs.Refusals.{refusal_line, refusal_of_trace, refusal_of_watch}
use Rattle.tydi_tool.specs.Reports.{path_of_stream}

-- ---- the monitor of a value

-- the text of the monitor of a port that expects the items of a value
abbrev pub expected_text : PlainSplit → PortValue → List ℕ
expected_text split value = watch_text (monitor_of split (items_of_value split value))

-- the answer with it
abbrev pub TellsExpected : PlainSplit → PortValue → Answer → Type 0
TellsExpected split value a = a ≡ output_answer (expected_text split value)

-- ---- the text of a monitor

-- the text of a monitor is read as the monitor, or refused for its first error
abbrev pub ReadsWatch : List ℕ → List ℕ → Result PlainWatch (List ℕ) → Type 0
ReadsWatch word bytes read = ReadsResult (refusal_of_watch word) (watch_of bytes) read

-- ---- the lines

-- how many items the stream of this number expects
abbrev pub count_of : PlainWatch → ℕ → ℕ
count_of watch stream = length (slice_index_or watch.want stream [])

-- the rest of the line of a stream: the edge at which its process set its fault; or else how many items it saw, of those that it expects
abbrev pub seen_text : (count place : ℕ) → Option ℕ → List ℕ
seen_text count place None = codes " seen " ⁀ decimal place ⁀ codes " of " ⁀ decimal count ⁀ codes "\n"
seen_text count place (Some edge) = codes " report " ⁀ decimal edge ⁀ codes "\n"

-- the line of a stream
abbrev pub watched_line : List (List ℕ) → ℕ → StreamWatched → List ℕ
watched_line path count one = codes "stream " ⁀ path_text path ⁀ seen_text count one.place one.report

-- the lines of these streams of a monitor, the first of which has this number
abbrev pub lines_from : PlainWatch → ℕ → List StreamWatched → List ℕ
lines_from watch number [] = []
lines_from watch number (one ∷ more) = watched_line (path_of_stream watch.heads number) (count_of watch number) one ++ lines_from watch (suc number) more

-- the lines of all streams of a monitor
abbrev pub watched_lines : PlainWatch → List StreamWatched → List ℕ
watched_lines watch watched = lines_from watch 0 watched

-- a process has set its fault
abbrev pub reports : StreamWatched → Bool
reports one = is_some one.report

-- no process has
abbrev pub IsQuiet : List StreamWatched → Type 0
IsQuiet watched = All (λ (one : StreamWatched). one.report ≡ None) watched

-- ---- the text of a trace, beside a monitor

-- by what was read of a text: what the monitor says of the trace, or the first error of the text
abbrev pub ReadsBeside : PlainWatch → List ℕ → Result TraceText TraceFault → Result Watching (List ℕ) → Type 0
ReadsBeside watch word (Ok t) (Ok found) = IsWatchingOf watch t found
ReadsBeside watch word (Ok t) (Err line) = ⊥
ReadsBeside watch word (Err fault) read = RefusesBy (refusal_of_trace word fault) read

-- the text of a trace is read as what a monitor says of it
abbrev pub ReadsWatching : PlainWatch → List ℕ → List ℕ → Result Watching (List ℕ) → Type 0
ReadsWatching watch word bytes read = ReadsBeside watch word (trace_of bytes) read

-- ---- the answer

-- the answer with these lines: a verdict where some process has set its fault
abbrev pub answer_of_lines : Bool → List ℕ → Answer
answer_of_lines true lines = answers.Verdict lines
answer_of_lines false lines = output_answer lines

-- the answer with the lines of all streams
abbrev pub watched_answer : PlainWatch → List StreamWatched → Answer
watched_answer watch watched = answer_of_lines (list_any reports watched) (watched_lines watch watched)

-- the answer to a trace of this word of which a monitor says this: the refusal of its heads, or the lines of all streams
abbrev pub TellsWatching : PlainWatch → List ℕ → Watching → Answer → Type 0
TellsWatching watch word (Misspelled fault) a = ⊥
TellsWatching watch word (OtherHeader place) a = a ≡ answers.Refused (refusal_line (other_header word place))
TellsWatching watch word (Watched watched) a = a ≡ watched_answer watch watched

-- ---- in code

-- what was found, as what a monitor says
abbrev pub watching_in : Seeing → Watching
watching_in (findings.OtherHeader place) = OtherHeader place
watching_in (findings.Streams watched) = Watched watched

-- there is one for each of so many streams
abbrev pub IsOfEach : ℕ → Watching → Type 0
IsOfEach streams (Watched watched) = length watched ≡ streams
IsOfEach streams found = Unit {0}

-- ---- a reader of the text, which comes in pieces

-- it was fed some bytes
abbrev pub IsFedSome : WatchFile → Type 0
IsFedSome file = (bytes : List ℕ) × IsFed file.watcher bytes

-- with these bytes after all that it was fed
abbrev pub watches_after : WatchFile → List ℕ → Result Seeing (List ℕ) → Type 0
watches_after file rest read = (bytes : List ℕ) → IsFed file.watcher bytes
    → Seen watching_in (ReadsWatching (watch_of_watcher file.watcher) file.word.now (bytes ++ rest)) read

-- it was fed nothing of the trace of this word, over which this monitor runs
pub record IsNewUnder (watch : PlainWatch) (word : List ℕ) (file : WatchFile) : Type 0 where
  pub word_is : file.word.now ≡ word
  pub none : file.fed ≡ 0
  pub fed : IsFed file.watcher []
  pub watch_is : watch_of_watcher file.watcher ≡ watch
