-- The monitors that `expect` writes, and what `watch` says with them.
use Rattle.std.proofs.Common.{◌≡◌, ◌∙◌, ℕ, ◌≤◌, ◌⊎◌, inl, inr, Bool, true, false, cond, nat_lt, List, [], ◌∷◌, length, Some, Ok, refl, sym, ap, subst, arith}
use Rattle.std.specs.List.{list_any}
use Rattle.tydi_io.specs.Store.{Files}
use Rattle.physical_stream.specs.declared.item.Item.{Item}
use Rattle.cycle_trace.specs.Trace.{TraceText, streams_of}
use Rattle.logical_value.specs.Tree.{plain_port}
use Rattle.logical_value.specs.declared.value.PortValue.{PortValue}
use Rattle.monitor_bench.specs.Laws.{MonitorsReport}
use Rattle.port_drive.specs.Drives.{heads_of}
use Rattle.port_drive.specs.Laws.{trace_of}
use Rattle.port_drive.specs.Text.{AreHeadsInForm}
use Rattle.port_drive.proofs.FormLemmas.{types-have-heads}
use Rattle.trace_watch.specs.Watched.{watched_of}
use Rattle.type_split.specs.Streams.{PlainSplit}
use Rattle.value_text.proofs.FitLemmas.{read_values_fit}
use Rattle.value_views.specs.Views.{Carries}
use Rattle.watch_text.specs.Reading.{MonitorsArePrintedAsRead, MonitorsAreReadAsPrinted, watch_of}
use Rattle.tydi_tool.specs.declared.answer.Answer.{Answer}
use Rattle.tydi_tool.specs.declared.answer.Answer.TheVariants as answers
use Rattle.tydi_tool.specs.Causes as rows
use Rattle.tydi_tool.specs.Causes.{HasCarried, HasDecode, HasMonitor, HasSplit, HasValue, HasWatch, IsExpectedText, IsQuietText, PortWords, ValueWords}
use Rattle.tydi_tool.specs.Commands.{Says}
use Rattle.tydi_tool.specs.CompareLaw.{ShowsValue}
use Rattle.tydi_tool.specs.Comparisons.{items_of_value}
use Rattle.tydi_tool.specs.Outcome.{output_answer, output_limit, output_too_long_line}
use Rattle.tydi_tool.specs.WatchLaw.{DrivenTracesAreSeen, OtherItemsAreTold, OtherValuesAreTold, ShownValuesAreSeen, TellsLess, WrittenLinesAreQuiet, WrittenMonitorsReport, WritesMonitor, all_seen, expect_words, monitor_for, seen_lines, watch_words}
use Rattle.tydi_tool.specs.Watches.{answer_of_lines, expected_text, reports, watched_answer}
use Rattle.tydi_tool.specs.Words.{Expect, Watch}
use Rattle.tydi_tool.proofs.CauseLemmas.{exactly, says_text}
use Rattle.tydi_tool.proofs.CauseSteps.{within_test}
use Rattle.tydi_tool.proofs.CommandLemmas.{SaysBy-request}
use Rattle.tydi_tool.proofs.CompareLawLemmas.{driven-shows}
use Rattle.tydi_tool.proofs.CompareLemmas.{many-items}
use Rattle.tydi_tool.proofs.DecodeLawLemmas.{formed-at, port-of}
use Rattle.tydi_tool.proofs.DriveLawLemmas.{written-driven}
use Rattle.tydi_tool.proofs.MonitorLemmas.{items-carry, monitor-well, seen-short}
use Rattle.tydi_tool.proofs.SeenLemmas.{HasLess, SeesAll, all-seen, first-others, less-or-all, seen-all}
use Rattle.tydi_tool.proofs.WatchCauses.{of_watch, says-streams}

same_text : (one other : List ℕ) → answers.Done one ≡ answers.Done other → one ≡ other
same_text one other e = cc

-- a text that is the answer is the one that is made
done-is : (text made : List ℕ) → answers.Done text ≡ output_answer made → text ≡ made
done-is text made said = by (nat_lt output_limit (length made)) said
  where
    by : (long : Bool) → answers.Done text ≡ cond long (answers.Refused output_too_long_line) (answers.Done made) → text ≡ made
    by true said = absurd cc
    by false said = cc

-- a text within the limit is the answer
answer-is : (text : List ℕ) → length text ≤ 67108864 → output_answer text ≡ answers.Done text
answer-is text within = ap (λ (b : Bool). cond b (answers.Refused output_too_long_line) (answers.Done text)) (within_test output_limit (length text) within)

-- ---- the monitor of a value

-- there is a list of expected items for each stream
lists : (split : PlainSplit) (value : PortValue) → length (items_of_value split value) ≡ length split.streams
lists split value = many-items split (plain_port value) 0 split.streams

heads-formed : (known : Files) (words : PortWords) (split : PlainSplit) → HasSplit known words split → AreHeadsInForm split
heads-formed known words split has =
    let formed = formed-at known words split has in subst AreHeadsInForm (sym has.is) (types-have-heads has.ltype formed.valid.valid formed.form)

-- the text of a monitor within the limit is read as the monitor
reads-monitor : MonitorsAreReadAsPrinted → (known : Files) (words : PortWords) (split : PlainSplit) (word : List ℕ) (value : PortValue) → HasSplit known words split → HasValue known split word value
    → length (expected_text split value) ≤ 67108864 → watch_of (expected_text split value) ≡ Ok (monitor_for split value)
reads-monitor spelled known words split word value at has within =
    spelled (monitor_for split value)
    (monitor-well split value (port-of known words split at) (heads-formed known words split at) (read_values_fit split has.bytes value has.reads) (omega (arith, within)))

-- ---- what is written

writes-monitor : MonitorsAreReadAsPrinted → MonitorsReport → (known : Files) (words : ValueWords) (text : List ℕ) → IsExpectedText known words text → length text ≤ 67108864 → WritesMonitor known words text
writes-monitor spelled law known words text is within = record {
  split = is.split;
  at = is.at;
  value = is.value;
  value_is = is.value_is;
  is = is.is;
  read = ap watch_of is.is
      ∙ reads-monitor spelled known words.at is.split words.value is.value is.at.split_is is.value_is (subst (λ (l : List ℕ). length l ≤ 67108864) is.is within);
  reports = λ t same. first-others law is.split (items_of_value is.split is.value) (lists is.split is.value) t same;
}

pub written-monitors : MonitorsAreReadAsPrinted → MonitorsReport → WrittenMonitorsReport
written-monitors spelled law known project port value text says =
    let cause = (exactly rows.AText known (Expect project port value) (answers.Done text)).0 (says, refl) in
    let same : text ≡ cause.text = same_text text cause.text cause.said in (
      subst (λ (l : List ℕ). length l ≤ 67108864) (sym same) cause.within,
      subst (WritesMonitor known (expect_words project port value)) (sym same) (writes-monitor spelled law known (expect_words project port value) cause.text cause.is cause.within),
    )

pub written-quiet : WrittenLinesAreQuiet
written-quiet known monitor trace text says =
    let cause = (exactly rows.AText known (Watch monitor trace) (answers.Done text)).0 (says, refl) in
    let same : text ≡ cause.text = same_text text cause.text cause.said in
    subst (IsQuietText known (watch_words monitor trace)) (sym same) cause.is

-- ---- what is said of a trace

-- where all is seen, no process reports
none-reports : (wants : List (List Item)) → list_any reports (all_seen wants) ≡ false
none-reports [] = refl
none-reports (want ∷ wants) = none-reports wants

module _ (law : MonitorsReport) (printed : MonitorsArePrintedAsRead) (known : Files) (monitor trace : List ℕ) (split : PlainSplit) (value : PortValue) (t : TraceText)
    (all : HasWatch known (watch_words monitor trace) (monitor_for split value) t) where
  -- the answer is the lines of what the monitor says
  says-lines : (a : Answer) → t.heads ≡ heads_of split → a ≡ watched_answer (monitor_for split value) (watched_of (monitor_for split value) (streams_of t)) → Says (Some known) (Some (Watch monitor trace)) a
  says-lines a same said =
      says-streams known (of_watch monitor trace) a (monitor_for split value) t (list_any reports (watched_of (monitor_for split value) (streams_of t))) all same refl said

  -- and no other
  only-lines : (a : Answer) → t.heads ≡ heads_of split → Says (Some known) (Some (Watch monitor trace)) a → a ≡ watched_answer (monitor_for split value) (watched_of (monitor_for split value) (streams_of t))
  only-lines a same says =
      let told = watched_answer (monitor_for split value) (watched_of (monitor_for split value) (streams_of t)) in
      SaysBy-request known (Watch monitor trace) a told says (says-lines told same refl)

  -- the lines that say that all is seen are the answer
  all-answer : ShowsValue split value t → watched_answer (monitor_for split value) (watched_of (monitor_for split value) (streams_of t)) ≡ answers.Done (seen_lines split value)
  all-answer shows =
      let well = (printed all.monitor_is.bytes (monitor_for split value) all.monitor_is.reads) in
      let within : length (expected_text split value) ≤ 67108864 = subst (λ (l : List ℕ). length l ≤ 67108864) well.1 all.monitor_is.file.within in
      let seen = all-seen law split (items_of_value split value) (lists split value) t shows.heads shows.items in
      ap (watched_answer (monitor_for split value)) seen
      ∙ ap (λ (some : Bool). answer_of_lines some (seen_lines split value)) (none-reports (items_of_value split value))
      ∙ answer-is (seen_lines split value) (omega (arith, within, seen-short split value))

  pub shown-seen : ShowsValue split value t → (a : Answer) → (Says (Some known) (Some (Watch monitor trace)) a → a ≡ answers.Done (seen_lines split value)) × (a ≡ answers.Done (seen_lines split value) → Says (Some known) (Some (Watch monitor trace)) a)
  shown-seen shows a = (λ says. only-lines a shows.heads says ∙ all-answer shows, λ said. says-lines a shows.heads (said ∙ sym (all-answer shows)))

  pub other-told : t.heads ≡ heads_of split → (ShowsValue split value t → ⊥) → (a : Answer) → Says (Some known) (Some (Watch monitor trace)) a → TellsLess split value a
  other-told same not_shown a says = by (less-or-all (items_of_value split value) (watched_of (monitor_for split value) (streams_of t)))
    where
      by : HasLess (items_of_value split value) (watched_of (monitor_for split value) (streams_of t)) ⊎ SeesAll (items_of_value split value) (watched_of (monitor_for split value) (streams_of t)) → TellsLess split value a
      by (inl less) = record {
        watched = watched_of (monitor_for split value) (streams_of t);
        said = only-lines a same says;
        stream = less.0;
        want = less.1.0;
        one = less.1.1.0;
        wanted = less.1.1.1.0;
        there = less.1.1.1.1.0;
        less = less.1.1.1.1.1;
      }
      by (inr sees) =
          absurd (not_shown (record { heads = same; items = seen-all law split (items_of_value split value) (lists split value) t same sees }))

pub shown-values-seen : MonitorsReport → MonitorsArePrintedAsRead → ShownValuesAreSeen
shown-values-seen law printed known monitor trace split value t all shows a = shown-seen law printed known monitor trace split value t all shows a

pub other-items-told : MonitorsReport → MonitorsArePrintedAsRead → OtherItemsAreTold
other-items-told law printed known monitor trace split value t all same not_shown a says = other-told law printed known monitor trace split value t all same not_shown a says

-- ---- what was driven, and what is decoded

pub driven-seen : MonitorsReport → MonitorsAreReadAsPrinted → MonitorsArePrintedAsRead → DrivenTracesAreSeen
driven-seen law spelled printed known after project port value plan monitor trace text rows_text expects drives has_monitor has_trace =
    let both = written-driven known project port value plan rows_text drives in
    let writes = both.1 in
    let split = writes.split in
    let read = writes.value in
    let made : IsExpectedText known (expect_words project port value) (expected_text split read) = record { split = split; at = writes.read.at; value = read; value_is = writes.read.value_is; is = refl } in
    let same : text ≡ expected_text split read =
    done-is text (expected_text split read)
    (SaysBy-request known (Expect project port value) (answers.Done text) (output_answer (expected_text split read)) expects (says_text known (Expect project port value) (expected_text split read) (output_answer (expected_text split read)) made refl)) in
    let cause = (exactly rows.AText known (Expect project port value) (answers.Done text)).0 (expects, refl) in
    let within : length text ≤ 67108864 = subst (λ (l : List ℕ). length l ≤ 67108864) (sym (same_text text cause.text cause.said)) cause.within in
    let monitor_is : HasMonitor after monitor (monitor_for split read) = record {
      bytes = text;
      file = record { there = has_monitor; within = within };
      reads = ap watch_of same
          ∙ reads-monitor spelled known (record { project = project; port = port }) split value read writes.read.at.split_is writes.read.value_is (subst (λ (l : List ℕ). length l ≤ 67108864) same within);
    } in
    let t = trace_of split writes.plan.cycles writes.trace.runs in
    let all : HasWatch after (watch_words monitor trace) (monitor_for split read) t = record {
      monitor_is = monitor_is;
      bytes = rows_text;
      file = record { there = has_trace; within = both.0 };
      reads = writes.trace.read;
    } in
    record {
      split = split;
      at = writes.read.at;
      value = read;
      value_is = writes.read.value_is;
      said = λ a. shown-seen law printed after monitor trace split read t all (driven-shows split read writes.plan rows_text writes.trace) a;
    }

pub other-values-told : MonitorsReport → MonitorsArePrintedAsRead → OtherValuesAreTold
other-values-told law printed known project port word trace monitor split value t other decoded alone has_value differ has_monitor a says =
    other-told law printed known monitor trace split value t all alone.legal.same not_shown a says
  where
    all : HasWatch known (watch_words monitor trace) (monitor_for split value) t
    all = record { monitor_is = has_monitor; bytes = decoded.bytes; file = decoded.file; reads = decoded.reads }

    not_shown : ShowsValue split value t → ⊥
    not_shown shows =
        let port_is = port-of known (record { project = project; port = port }) split decoded.at.split_is in
        let carries : Carries split (plain_port value) (items_of_value split value) = items-carry split value port_is (read_values_fit split has_value.bytes value has_value.reads) in
        differ (alone.alone (plain_port value) (subst (Carries split (plain_port value)) (sym shows.items) carries))
