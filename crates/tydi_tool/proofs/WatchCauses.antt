-- The steps of `expect` and of `watch` in both directions: from an answer to its cause, and from a cause to its answer.
use Rattle.std.proofs.Common.{◌≡◌, ◌||◌, ℕ, zero, suc, inl, inr, Bool, true, false, List, [], ◌∷◌, Option, Some, None, Result, Ok, Err, codes, decimal, refl, sym, ap, ◌∙◌, subst, slice_get}
use Rattle.std.specs.List.{list_any}
use Rattle.std.specs.Option.{is_some}
use Rattle.std.proofs.lemmas.List.Elements.{All-cons, All-nil}
use Rattle.tydi_io.specs.Store.{Files}
use Rattle.cycle_trace.specs.Trace.{TraceText, streams_of}
use Rattle.cycle_trace.specs.TraceText.{trace_of}
use Rattle.cycle_trace.specs.declared.fault.TraceFault.{TraceFault}
use Rattle.logical_value.specs.declared.value.PortValue.{PortValue}
use Rattle.trace_watch.specs.Texts.{IsWatchingOf, Misspelled, OtherHeader, Watched, Watching}
use Rattle.trace_watch.specs.Watched.{watched_of}
use Rattle.trace_watch.specs.declared.watched.StreamWatched.{StreamWatched}
use Rattle.trace_decode.proofs.RowLemmas.{all-at, same_some}
use Rattle.type_split.specs.Streams.{PlainSplit}
use Rattle.watch_text.specs.Reading.{watch_of}
use Rattle.watch_text.specs.Statements.{PlainWatch}
use Rattle.watch_text.specs.declared.fault.WatchFault.{WatchFault}
use Rattle.tydi_tool.specs.declared.answer.Answer.{Answer}
use Rattle.tydi_tool.specs.declared.answer.Answer.TheVariants as answers
use Rattle.tydi_tool.specs.Ask.{Ask, Ends, SaysBy}
use Rattle.tydi_tool.specs.Causes as rows
use Rattle.tydi_tool.specs.Causes.{HasBytes, HasCarried, HasMonitor, HasMonitorFault, HasValue, HasWatch, HasWatchedFault, IsExpectedText, IsQuietText, Reaches, ReportCause, ValueWords, WatchWords, WatchedOtherHeader, valued_in, watched_in}
use Rattle.tydi_tool.specs.Commands.{ask_of, expected_ask, watch_ask, watched_ask}
use Rattle.tydi_tool.specs.Outcome.{output_answer}
use Rattle.tydi_tool.specs.Reading.{ReadsResult}
use Rattle.tydi_tool.specs.Refusals.{refusal_of_trace, refusal_of_watch}
use Rattle.tydi_tool.specs.Watches.{IsQuiet, ReadsBeside, ReadsWatch, ReadsWatching, TellsExpected, TellsWatching, answer_of_lines, expected_text, reports, watched_answer, watched_lines}
use Rattle.tydi_tool.specs.Words.{FileWord, Request, monitor_file, trace_file}
use Rattle.tydi_tool.proofs.AnswerLemmas.{not_read}
use Rattle.tydi_tool.proofs.CauseLines.{by_line, line_of, monitor_text, trace_text, two_words}
use Rattle.tydi_tool.proofs.CauseSteps.{Told, reaches-read, says-read, says-refused, says-valued, told-file, told-valued, values}
use Rattle.tydi_tool.proofs.WatchLemmas.{ReadsWatch-read, watch-read}

-- ---- `expect`

-- the words of a port and a value of it
abbrev pub of_expect : (project port value : List ℕ) → ValueWords
of_expect project port value = record { at = record { project = project; port = port }; value = value }

-- how the command goes on with a value
abbrev pub monitors : PlainSplit → PortValue → Ask
monitors split value = Ends (TellsExpected split value)

pub told-expected : (known : Files) (words : ValueWords) (request : Request) (a : Answer) → valued_in request ≡ Some words → (split : PlainSplit) → HasCarried known words.at split
    → ask_of request ≡ values known words monitors → ((text : List ℕ) → IsExpectedText known words text → a ≡ output_answer text → Told known request a)
    → SaysBy (Some known) (expected_ask words.value split) a → Told known request a
told-expected known words request a valued split at same text says =
    told-valued known words monitors request a valued split at (λ other reaches. subst (Reaches known other) (sym same) reaches)
    (λ value has said. text (expected_text split value) (record { split = split; at = at; value = value; value_is = has; is = refl }) said) says

pub says-expected : (known : Files) (words : ValueWords) (text : List ℕ) (a : Answer) (is : IsExpectedText known words text) → a ≡ output_answer text → SaysBy (Some known) (values known words monitors) a
says-expected known words text a is said = says-valued known words monitors a is.split is.at is.value is.value_is (said ∙ ap output_answer is.is)

-- ---- what is said of streams

-- some process has set its fault
abbrev HasReport : List StreamWatched → Type 0
HasReport watched = (stream : ℕ) × ((one : StreamWatched) × ((slice_get watched stream ≡ Some one) × ((edge : ℕ) × (one.report ≡ Some edge))))

some_report : (watched : List StreamWatched) → list_any reports watched ≡ true → HasReport watched
some_report [] is = absurd cc
some_report (first ∷ more) is = by first.report refl is (some_report more)
  where
    by : (report : Option ℕ) → first.report ≡ report → (is_some report || list_any reports more) ≡ true → (list_any reports more ≡ true → HasReport more) → HasReport (first ∷ more)
    by (Some edge) found is later = (zero, (first, (refl, (edge, found))))
    by None found is later = let after = later is in (suc after.0, (after.1.0, (after.1.1.0, after.1.1.1)))

-- no process has
no_report : (watched : List StreamWatched) → list_any reports watched ≡ false → IsQuiet watched
no_report [] is = All-nil (λ (one : StreamWatched). one.report ≡ None)
no_report (first ∷ more) is = by first.report refl is (no_report more)
  where
    by : (report : Option ℕ) → first.report ≡ report → (is_some report || list_any reports more) ≡ false → (list_any reports more ≡ false → IsQuiet more) → IsQuiet (first ∷ more)
    by (Some edge) found is later = absurd cc
    by None found is later = All-cons (λ (one : StreamWatched). one.report ≡ None) first more found (later is)

reported : (watched : List StreamWatched) (stream : ℕ) (one : StreamWatched) (edge : ℕ) → slice_get watched stream ≡ Some one → one.report ≡ Some edge → list_any reports watched ≡ true
reported [] stream one edge there is = absurd cc
reported (first ∷ more) zero one edge there is =
    ap (λ (o : StreamWatched). is_some o.report || list_any reports more) (same_some there) ∙ ap (λ (report : Option ℕ). is_some report || list_any reports more) is
reported (first ∷ more) (suc stream) one edge there is = by (reports first) (reported more stream one edge there is)
  where
    by : (here : Bool) → list_any reports more ≡ true → (here || list_any reports more) ≡ true
    by true later = refl
    by false later = later

-- where no process reports, the answer is no verdict
quiet-by : (watched : List StreamWatched) (some : Bool) → list_any reports watched ≡ some → IsQuiet watched → some ≡ false
quiet-by watched false is all = refl
quiet-by watched true is all =
    let found = some_report watched is in
    let none = all-at (λ (one : StreamWatched). one.report ≡ None) watched found.0 found.1.0 all found.1.1.0 in
    absurd (not_both found.1.0.report found.1.1.1.0 found.1.1.1.1 none)
  where
    not_both : (report : Option ℕ) (edge : ℕ) → report ≡ Some edge → report ≡ None → ⊥
    not_both report edge some none = cc

quiet : (watched : List StreamWatched) → IsQuiet watched → list_any reports watched ≡ false
quiet watched all = quiet-by watched (list_any reports watched) refl all

-- ---- `watch`

-- the words of a monitor and a trace
abbrev pub of_watch : (monitor trace : List ℕ) → WatchWords
of_watch monitor trace = record { monitor = monitor; trace = trace }

module _ (known : Files) (words : WatchWords) where
  -- the command
  abbrev pub runs : Ask
  runs = watch_ask words.monitor words.trace

  -- ---- an answer has a cause

  module _ (request : Request) (a : Answer) (named : watched_in request ≡ Some words) where
    -- the text of the monitor is refused
    refuses_monitor : (bytes line : List ℕ) → HasBytes known words.monitor 67108864 bytes → ReadsWatch words.monitor bytes (Err line) → a ≡ answers.Refused line → Told known request a
    refuses_monitor bytes line file refused said = by (watch_of bytes) refl refused
      where
        not_both : (watch : PlainWatch) → ◌≡◌ {A = Result PlainWatch (List ℕ)} (Err line) (Ok watch) → ⊥
        not_both watch e = cc

        by : (read : Result PlainWatch WatchFault) → watch_of bytes ≡ read → ReadsResult (refusal_of_watch words.monitor) read (Err line) → Told known request a
        by (Ok watch) is refused = absurd (not_both watch refused)
        by (Err fault) is refused = (
          rows.TextFault,
          inl (record {
            line = line;
            faulty = inr (inr (inr (inr (inr (inr (inr (inr (inr (inr (inr (inl (record {
              words = words;
              named = named;
              bytes = bytes;
              file = file;
              fault = fault;
              reads = is;
              told = sym (monitor_text words.monitor fault) ∙ line_of PlainWatch (refusal_of_watch words.monitor fault) line refused;
            }))))))))))));
            said = said;
          }),
        )

    module _ (watch : PlainWatch) (has : HasMonitor known words.monitor watch) where
      -- the text of the trace is refused
      refuses_trace : (bytes line : List ℕ) → HasBytes known words.trace 67108864 bytes → ReadsWatching watch words.trace bytes (Err line) → a ≡ answers.Refused line → Told known request a
      refuses_trace bytes line file refused said = by (trace_of bytes) refl refused
        where
          by : (read : Result TraceText TraceFault) → trace_of bytes ≡ read → ReadsBeside watch words.trace read (Err line) → Told known request a
          by (Ok t) is refused = absurd refused
          by (Err fault) is refused = (
            rows.TextFault,
            inl (record {
              line = line;
              faulty = inr (inr (inr (inr (inr (inr (inr (inr (inr (inr (inr (inr (record {
                words = words;
                named = named;
                watch = watch;
                monitor_is = has;
                bytes = bytes;
                file = file;
                fault = fault;
                reads = is;
                told = sym (trace_text words.trace fault) ∙ line_of Watching (refusal_of_trace words.trace fault) line refused;
              }))))))))))));
              said = said;
            }),
          )

      -- the lines of the streams are the answer
      tells_streams : (t : TraceText) → HasWatch known words watch t → ((text : List ℕ) → IsQuietText known words text → a ≡ output_answer text → Told known request a)
          → t.heads ≡ watch.heads → (some : Bool) → list_any reports (watched_of watch (streams_of t)) ≡ some
          → a ≡ answer_of_lines some (watched_lines watch (watched_of watch (streams_of t))) → Told known request a
      tells_streams t all text same true some said =
          let found = some_report (watched_of watch (streams_of t)) some in (
            rows.AReport,
            record {
              words = words;
              named = named;
              watch = watch;
              read = t;
              all = all;
              same = same;
              stream = found.0;
              one = found.1.0;
              there = found.1.1.0;
              edge = found.1.1.1.0;
              reported = found.1.1.1.1;
              said = said;
            },
          )
      tells_streams t all text same false none said =
          text (watched_lines watch (watched_of watch (streams_of t)))
          (record { watch = watch; t = t; all = all; same = same; quiet = no_report (watched_of watch (streams_of t)) none; is = refl }) said

      -- the trace is read, and what the monitor says is the answer
      tells_watching : (t : TraceText) (found : Watching) → HasWatch known words watch t → ((text : List ℕ) → IsQuietText known words text → a ≡ output_answer text → Told known request a)
          → IsWatchingOf watch t found → TellsWatching watch words.trace found a → Told known request a
      tells_watching t (Misspelled fault) all text is said = absurd is
      tells_watching t (OtherHeader place) all text is said = (
        rows.OtherHeader,
        inr (inr (inr (record {
          words = words;
          named = named;
          watch = watch;
          read = t;
          all = all;
          place = place;
          differ = is;
          said = said ∙ ap answers.Refused (two_words (codes "tydi: ") (codes "OtherHeader") (codes " ") words.trace (decimal place) (codes "\n"));
        }))),
      )
      tells_watching t (Watched watched) all text is said =
          tells_streams t all text is.0 (list_any reports (watched_of watch (streams_of t))) refl (said ∙ ap (watched_answer watch) is.1)

      -- a trace over which the monitor runs
      told-over : ((other : FileWord) → Reaches known other runs → Reaches known other (ask_of request)) → ((text : List ℕ) → IsQuietText known words text → a ≡ output_answer text → Told known request a)
          → SaysBy (Some known) (watched_ask words.trace watch) a → Told known request a
      told-over reached text says =
          told-file known (trace_file words.trace) (ReadsWatching watch words.trace) (λ found. Ends (TellsWatching watch words.trace found)) a request
          (reached (trace_file words.trace)
          (reaches-read known (monitor_file words.monitor) (ReadsWatch words.monitor) (watched_ask words.trace) a (trace_file words.trace) has.bytes watch has.file
          (ReadsWatch-read words.monitor has.bytes watch has.reads) (inl refl)))
          refuses_trace
          (λ bytes found file reads said. by bytes found file (trace_of bytes) refl reads said) says
        where
          by : (bytes : List ℕ) (found : Watching) → HasBytes known words.trace 67108864 bytes → (read : Result TraceText TraceFault) → trace_of bytes ≡ read
              → ReadsBeside watch words.trace read (Ok found) → TellsWatching watch words.trace found a → Told known request a
          by bytes found file (Ok t) is reads said = tells_watching t found (record { monitor_is = has; bytes = bytes; file = file; reads = is }) text reads said
          by bytes found file (Err fault) is reads said = absurd (not_read (refusal_of_trace words.trace fault) found reads)

  pub told-watch : (request : Request) (a : Answer) → watched_in request ≡ Some words → ask_of request ≡ runs
      → ((text : List ℕ) → IsQuietText known words text → a ≡ output_answer text → Told known request a) → SaysBy (Some known) runs a → Told known request a
  told-watch request a named same text says =
      told-file known (monitor_file words.monitor) (ReadsWatch words.monitor) (watched_ask words.trace) a request (reached (monitor_file words.monitor) (inl refl))
      (refuses_monitor request a named)
      (λ bytes watch file reads said. told-over request a named watch (record { bytes = bytes; file = file; reads = watch-read words.monitor bytes watch reads }) reached text said) says
    where
      reached : (other : FileWord) → Reaches known other runs → Reaches known other (ask_of request)
      reached other reaches = subst (Reaches known other) (sym same) reaches

  -- ---- a cause gives its answer

  -- what the monitor says is the answer
  pub says-watching : (a : Answer) (watch : PlainWatch) (t : TraceText) (found : Watching) → HasWatch known words watch t → IsWatchingOf watch t found → TellsWatching watch words.trace found a
      → SaysBy (Some known) runs a
  says-watching a watch t found all is tells =
      says-read known (monitor_file words.monitor) (ReadsWatch words.monitor) (watched_ask words.trace) a all.monitor_is.bytes watch all.monitor_is.file
      (ReadsWatch-read words.monitor all.monitor_is.bytes watch all.monitor_is.reads)
      (says-read known (trace_file words.trace) (ReadsWatching watch words.trace) (λ one. Ends (TellsWatching watch words.trace one)) a all.bytes found all.file reads tells)
    where
      reads : ReadsWatching watch words.trace all.bytes (Ok found)
      reads = subst (λ (read : Result TraceText TraceFault). ReadsBeside watch words.trace read (Ok found)) (sym all.reads) is

  -- the lines of the streams are the answer
  pub says-streams : (a : Answer) (watch : PlainWatch) (t : TraceText) (some : Bool) → HasWatch known words watch t → t.heads ≡ watch.heads → list_any reports (watched_of watch (streams_of t)) ≡ some
      → a ≡ answer_of_lines some (watched_lines watch (watched_of watch (streams_of t))) → SaysBy (Some known) runs a
  says-streams a watch t some all same is said =
      says-watching a watch t (Watched (watched_of watch (streams_of t))) all (same, refl)
      (said ∙ ap (λ (b : Bool). answer_of_lines b (watched_lines watch (watched_of watch (streams_of t)))) (sym is))

-- the text of the monitor is refused
pub says-monitor_fault : (known : Files) (request : Request) (line : List ℕ) (a : Answer) (has : HasMonitorFault known request line) → a ≡ answers.Refused line → SaysBy (Some known) (runs known has.words) a
says-monitor_fault known request line a has said =
    says-refused known (monitor_file has.words.monitor) (ReadsWatch has.words.monitor) (watched_ask has.words.trace) a has.bytes line has.file refused said
  where
    refused : ReadsWatch has.words.monitor has.bytes (Err line)
    refused = subst (λ (read : Result PlainWatch WatchFault). ReadsResult (refusal_of_watch has.words.monitor) read (Err line)) (sym has.reads)
        (by_line PlainWatch (refusal_of_watch has.words.monitor has.fault) line (monitor_text has.words.monitor has.fault ∙ has.told))

-- the text of the trace is refused
pub says-watched_fault : (known : Files) (request : Request) (line : List ℕ) (a : Answer) (has : HasWatchedFault known request line) → a ≡ answers.Refused line → SaysBy (Some known) (runs known has.words) a
says-watched_fault known request line a has said =
    says-read known (monitor_file has.words.monitor) (ReadsWatch has.words.monitor) (watched_ask has.words.trace) a has.monitor_is.bytes has.watch has.monitor_is.file
    (ReadsWatch-read has.words.monitor has.monitor_is.bytes has.watch has.monitor_is.reads)
    (says-refused known (trace_file has.words.trace) (ReadsWatching has.watch has.words.trace) (λ one. Ends (TellsWatching has.watch has.words.trace one)) a has.bytes line has.file refused said)
  where
    refused : ReadsWatching has.watch has.words.trace has.bytes (Err line)
    refused = subst (λ (read : Result TraceText TraceFault). ReadsBeside has.watch has.words.trace read (Err line)) (sym has.reads)
        (by_line Watching (refusal_of_trace has.words.trace has.fault) line (trace_text has.words.trace has.fault ∙ has.told))

pub says-watched_header : (known : Files) (request : Request) (a : Answer) (cause : WatchedOtherHeader known request a) → SaysBy (Some known) (runs known cause.words) a
says-watched_header known request a cause =
    says-watching known cause.words a cause.watch cause.read (OtherHeader cause.place) cause.all cause.differ
    (cause.said ∙ ap answers.Refused (sym (two_words (codes "tydi: ") (codes "OtherHeader") (codes " ") cause.words.trace (decimal cause.place) (codes "\n"))))

pub says-report : (known : Files) (request : Request) (a : Answer) (cause : ReportCause known request a) → SaysBy (Some known) (runs known cause.words) a
says-report known request a cause =
    says-streams known cause.words a cause.watch cause.read true cause.all cause.same
    (reported (watched_of cause.watch (streams_of cause.read)) cause.stream cause.one cause.edge cause.there cause.reported) cause.said

pub says-quiet_text : (known : Files) (words : WatchWords) (text : List ℕ) (a : Answer) (is : IsQuietText known words text) → a ≡ output_answer text → SaysBy (Some known) (runs known words) a
says-quiet_text known words text a is said =
    says-streams known words a is.watch is.t false is.all is.same (quiet (watched_of is.watch (streams_of is.t)) is.quiet) (said ∙ ap output_answer is.is)
