-- The text of a monitor is read in one way, and always; and so is the text of a trace beside it. What is said of the streams has a line for each.
use Rattle.std.proofs.Common.{◌≡◌, ◌∙◌, ℕ, ◌+◌, ◌<◌, ◌≤◌, ◌^◌, ◌-◌, ◌==◌, inl, inr, Bool, true, false, if◌then◌else◌, List, [], ◌∷◌, length, Option, Some, None, Result, Ok, Err, IfOk, refl, sym, ap, subst, arith}
use Rattle.std.specs.Prelude.{MatchOption}
use Rattle.std.specs.List.{All}
use Rattle.std.proofs.lemmas.List.{append-nil}
use Rattle.std.proofs.lemmas.List.Elements.{All-cons, All-head, All-nil, All-tail}
use Rattle.tydi_base.specs.Pieces.{pieces_of}
use Rattle.tydi_io.specs.Store.{Files}
use Rattle.tydi_reading.specs.Reading.{Outcome, stopped, took}
use Rattle.vhdl_text.specs.Lines.{Cut, cut_last}
use Rattle.vhdl_text.specs.Reading.{offset_of}
use Rattle.vhdl_text.specs.declared.refusal.Refusal.{Refusal as Refused}
use Rattle.cycle_trace.specs.Trace.{TraceText, streams_of}
use Rattle.cycle_trace.specs.TraceText.{trace_of}
use Rattle.cycle_trace.specs.declared.fault.TraceFault.{TraceFault}
use Rattle.cycle_trace.specs.declared.fault.TraceFault.TheVariants as reading
use Rattle.cycle_trace.proofs.StreamLemmas.{length-streams}
use Rattle.cycle_trace.proofs.TraceFaults.{trace_free}
use Rattle.physical_stream.specs.declared.item.Item.{Item}
use Rattle.monitor_bench.specs.Meaning.{processes_of}
use Rattle.monitor_bench.specs.Standing.{CanWatch}
use Rattle.trace_decode.proofs.LawLemmas.{not_other, one_place}
use Rattle.trace_decode.proofs.SomeLemmas.{differ_or_same}
use Rattle.trace_watch.specs.Texts.{IsFed, IsWatchedText, IsWatchingOf, Misspelled, OtherHeader, Watched, Watching, watch_of_watcher}
use Rattle.trace_watch.specs.Watched.{watched_of}
use Rattle.trace_watch.specs.declared.fault.WatchTraceFault.TheVariants as faults
use Rattle.trace_watch.specs.declared.watched.StreamWatched.{StreamWatched}
use Rattle.watch_text.specs.Lengths.{TablesAreShorterThanTheirText}
use Rattle.watch_text.specs.Reading.{MonitorsArePrintedAsRead, watch_from, watch_in, watch_of, whole}
use Rattle.watch_text.specs.Reading as watches
use Rattle.watch_text.specs.Statements.{PlainWatch, plain_watch}
use Rattle.watch_text.specs.Text.{watch_text}
use Rattle.watch_text.specs.declared.fault.WatchFault.{WatchFault}
use Rattle.watch_text.specs.declared.fault.WatchFault.TheVariants as watching
use Rattle.watch_text.specs.declared.watch.Watch.{Watch}
use Rattle.tydi_tool.specs.declared.answer.Answer.{Answer}
use Rattle.tydi_tool.specs.declared.answer.Answer.TheVariants as answers
use Rattle.tydi_tool.specs.declared.answer.Reply.{Reply}
use Rattle.tydi_tool.specs.declared.answer.Reply.TheVariants as replies
use Rattle.tydi_tool.specs.declared.watch_file.Seeing.{Seeing}
use Rattle.tydi_tool.specs.declared.watch_file.Seeing.TheVariants as findings
use Rattle.tydi_tool.specs.declared.watch_file.WatchFile.{WatchFile}
use Rattle.tydi_tool.specs.Ask.{IsAsked}
use Rattle.tydi_tool.specs.Commands.{watched_ask}
use Rattle.tydi_tool.specs.Files.{IsFound}
use Rattle.tydi_tool.specs.Laws.{AsksAlways, AsksOnce, HasSome, ReadsOnce}
use Rattle.tydi_tool.specs.Reading.{IsRefusedBy, ReadsAs, ReadsResult, RefusesBy, Seen}
use Rattle.tydi_tool.specs.Refusals.{Refusal, refusal_line, refusal_of_trace, refusal_of_watch}
use Rattle.tydi_tool.specs.Watches.{IsFedSome, IsNewUnder, IsOfEach, ReadsBeside, ReadsWatch, ReadsWatching, TellsWatching, watches_after, watching_in}
use Rattle.tydi_tool.specs.Words.{FileWord, monitor_file}
use Rattle.tydi_tool.proofs.AnswerLemmas.{RefusesBy-line, not_read}
use Rattle.tydi_tool.proofs.BenchLemmas.{result-apart, result-lines, result-read, result-same, result-some}
use Rattle.tydi_tool.proofs.CauseSteps.{found_bytes}
use Rattle.tydi_tool.proofs.SeenLemmas.{many-processes, many-watched}
use Rattle.tydi_tool.proofs.SomeLemmas.{RefusesBy-trace}
use Rattle.tydi_tool.proofs.TextLemmas.{refused-as}

-- ---- a monitor

same_error : (one other : WatchFault) → ◌≡◌ {A = Result PlainWatch WatchFault} (Err one) (Err other) → one ≡ other
same_error one other is = cc

not_memory : (offset : ℕ) → watching.NotForm offset ≡ watching.Memory → ⊥
not_memory offset is = cc

-- the error of a monitor's text is never want of memory
whole-free : (end : ℕ) (cut_off : List ℕ) (outcome : Outcome Refused (List ℕ) PlainWatch) → whole end cut_off outcome ≡ Err watching.Memory → ⊥
whole-free end cut_off (took watch []) is = by (length cut_off == 0) is
  where
    by : (test : Bool) → ◌≡◌ {A = Result PlainWatch WatchFault} (if test then Ok watch else Err (watching.NotForm end)) (Err watching.Memory) → ⊥
    by true is = cc
    by false is = not_memory end (same_error (watching.NotForm end) watching.Memory is)
whole-free end cut_off (took watch (line ∷ lines)) is = not_memory (offset_of end (line ∷ lines)) (same_error (watching.NotForm (offset_of end (line ∷ lines))) watching.Memory is)
whole-free end cut_off (stopped e lines) is = not_memory (offset_of end lines) (same_error (watching.NotForm (offset_of end lines)) watching.Memory is)

watches_free : (text : List ℕ) → watch_of text ≡ Err watching.Memory → ⊥
unfolding watch_of
watches_free text is = by (cut_last 10 text) is
  where
    by : (cut : Option Cut) → watch_in cut ≡ Err watching.Memory → ⊥
    by None is = not_memory 0 (same_error (watching.NotForm 0) watching.Memory is)
    by (Some cut) is = whole-free (length cut.front + 1) cut.back (watch_from (pieces_of 10 cut.front)) is

pub ReadsWatch-once : (word : List ℕ) → ReadsOnce (ReadsWatch word)
ReadsWatch-once word = record {
  same = λ bytes x y p q. result-same (refusal_of_watch word) (watch_of bytes) x y p q;
  apart = λ bytes x line p q. result-apart (refusal_of_watch word) (watch_of bytes) x line p q;
  lines = λ bytes one other p q. result-lines (refusal_of_watch word) (watch_of bytes) one other p q;
}

pub ReadsWatch-some : (word bytes : List ℕ) → HasSome (Result PlainWatch (List ℕ)) (ReadsWatch word bytes)
ReadsWatch-some word bytes = result-some (refusal_of_watch word) (watch_of bytes) told
  where
    told : (fault : WatchFault) → watch_of bytes ≡ Err fault → refusal_of_watch word fault ≡ None → ⊥
    told (watching.NotForm offset) is none = cc
    told watching.Memory is none = watches_free bytes is

some-watch : (word line : List ℕ) (fault : WatchFault) → RefusesBy {X = PlainWatch} (refusal_of_watch word fault) (Err line) → watches.fault_in fault ≡ Some fault
some-watch word line (watching.NotForm offset) refuses = refl
some-watch word line watching.Memory refuses = absurd refuses

pub ReadsWatch-read : (word bytes : List ℕ) (watch : PlainWatch) → watch_of bytes ≡ Ok watch → ReadsWatch word bytes (Ok watch)
ReadsWatch-read word bytes watch read = subst (λ (r : Result PlainWatch WatchFault). ReadsResult (refusal_of_watch word) r (Ok watch)) (sym read) refl

pub ReadsWatch-refused : (word bytes : List ℕ) (fault : WatchFault) (reply : Reply) → MatchOption (watches.fault_in fault) (Unit {0}) (λ f. watch_of bytes ≡ Err f)
    → IsRefusedBy (refusal_of_watch word fault) reply → ReadsAs (Seen plain_watch (ReadsWatch word bytes)) (Err reply)
ReadsWatch-refused word bytes fault reply told refused = seen reply (refused-as PlainWatch (refusal_of_watch word fault) reply (ReadsWatch word bytes) by refused)
  where
    by : (line : List ℕ) → RefusesBy {X = PlainWatch} (refusal_of_watch word fault) (Err line) → ReadsWatch word bytes (Err line)
    by line refuses =
        let read : watch_of bytes ≡ Err fault
        = subst (λ (o : Option WatchFault). MatchOption o (Unit {0}) (λ f. watch_of bytes ≡ Err f)) (some-watch word line fault refuses) told in
        subst (λ (r : Result PlainWatch WatchFault). ReadsResult (refusal_of_watch word) r (Err line)) (sym read) refuses

    seen : (reply : Reply) → ReadsAs (ReadsWatch word bytes) (Err reply) → ReadsAs (Seen plain_watch (ReadsWatch word bytes)) (Err reply)
    seen (replies.Says (answers.Refused line)) reads = reads
    seen (replies.Says (answers.Verdict line)) reads = reads
    seen (replies.Says (answers.Done text)) reads = reads
    seen (replies.ReadFault line) reads = reads
    seen replies.Memory reads = reads

pub watch-read : (word bytes : List ℕ) (watch : PlainWatch) → ReadsWatch word bytes (Ok watch) → watch_of bytes ≡ Ok watch
watch-read word bytes watch reads = result-read (refusal_of_watch word) (watch_of bytes) watch reads

-- ---- one reading of a trace, one answer

module _ (watch : PlainWatch) (word : List ℕ) where
  one_watching : (t : TraceText) (x y : Watching) → IsWatchingOf watch t x → IsWatchingOf watch t y → x ≡ y
  one_watching t (Misspelled fault) y p q = absurd p
  one_watching t (OtherHeader place) (Misspelled fault) p q = absurd q
  one_watching t (OtherHeader place) (OtherHeader other) p q = ap OtherHeader (one_place t.heads watch.heads place other p q)
  one_watching t (OtherHeader place) (Watched watched) p q = absurd (not_other t.heads watch.heads place p q.0)
  one_watching t (Watched watched) (Misspelled fault) p q = absurd q
  one_watching t (Watched watched) (OtherHeader place) p q = absurd (not_other t.heads watch.heads place q p.0)
  one_watching t (Watched watched) (Watched other) p q = ap Watched (p.1 ∙ sym q.1)

  watching-same : (read : Result TraceText TraceFault) (x y : Watching) → ReadsBeside watch word read (Ok x) → ReadsBeside watch word read (Ok y) → x ≡ y
  watching-same (Ok t) x y p q = one_watching t x y p q
  watching-same (Err fault) x y p q = absurd (not_read (refusal_of_trace word fault) x p)

  watching-apart : (read : Result TraceText TraceFault) (x : Watching) (line : List ℕ) → ReadsBeside watch word read (Ok x) → ReadsBeside watch word read (Err line) → ⊥
  watching-apart (Ok t) x line p q = q
  watching-apart (Err fault) x line p q = not_read (refusal_of_trace word fault) x p

  watching-lines : (read : Result TraceText TraceFault) (one other : List ℕ) → ReadsBeside watch word read (Err one) → ReadsBeside watch word read (Err other) → one ≡ other
  watching-lines (Ok t) one other p q = absurd p
  watching-lines (Err fault) one other p q = RefusesBy-line Watching (refusal_of_trace word fault) one other p q

  ReadsWatching-once : ReadsOnce (ReadsWatching watch word)
  ReadsWatching-once = record {
    same = λ bytes x y p q. watching-same (trace_of bytes) x y p q;
    apart = λ bytes x line p q. watching-apart (trace_of bytes) x line p q;
    lines = λ bytes one other p q. watching-lines (trace_of bytes) one other p q;
  }

  watching-one : (found : Watching) (a b : Answer) → TellsWatching watch word found a → TellsWatching watch word found b → a ≡ b
  watching-one (Misspelled fault) a b p q = absurd p
  watching-one (OtherHeader place) a b p q = p ∙ sym q
  watching-one (Watched watched) a b p q = p ∙ sym q

pub watched-once : (trace : List ℕ) (watch : PlainWatch) → AsksOnce (watched_ask trace watch)
watched-once trace watch = (ReadsWatching-once watch trace, λ bytes found reads a b p q. watching-one watch trace found a b p q)

-- ---- some reading, some answer

module _ (watch : PlainWatch) (word bytes : List ℕ) where
  watching-some : (read : Result TraceText TraceFault) → trace_of bytes ≡ read → HasSome (Result Watching (List ℕ)) (ReadsBeside watch word read)
  watching-some (Ok t) is = λ none.
      differ_or_same t.heads watch.heads (λ place differ. none (Ok (OtherHeader place)) differ) (λ same. none (Ok (Watched (watched_of watch (streams_of t)))) (same, refl))
  watching-some (Err fault) is = λ none. let refused = RefusesBy-trace Watching word fault (λ same. trace_free bytes (is ∙ ap Err same)) in none (Err refused.0) refused.1

watching-told : (watch : PlainWatch) (word : List ℕ) (t : TraceText) (found : Watching) → IsWatchingOf watch t found → (a : Answer) × TellsWatching watch word found a
watching-told watch word t (Misspelled fault) is = absurd is
watching-told watch word t (OtherHeader place) is = (_, refl)
watching-told watch word t (Watched watched) is = (_, refl)

told-some : (watch : PlainWatch) (word bytes : List ℕ) (found : Watching) → ReadsWatching watch word bytes (Ok found) → (a : Answer) × TellsWatching watch word found a
told-some watch word bytes found reads = by (trace_of bytes) reads
  where
    by : (read : Result TraceText TraceFault) → ReadsBeside watch word read (Ok found) → (a : Answer) × TellsWatching watch word found a
    by (Ok t) is = watching-told watch word t found is
    by (Err fault) refused = absurd (not_read (refusal_of_trace word fault) found refused)

pub watched-always : (trace : List ℕ) (watch : PlainWatch) → AsksAlways (watched_ask trace watch)
watched-always trace watch = (λ bytes. watching-some watch trace bytes (trace_of bytes) refl, λ bytes found reads none. let a = told-some watch trace bytes found reads in none a.0 a.1)

-- ---- in code

-- what is found of a text
abbrev pub FoundAs : PlainWatch → (word bytes : List ℕ) → Result Seeing Reply → Type 0
FoundAs watch word bytes result = ReadsAs (Seen watching_in (ReadsWatching watch word bytes)) result

module _ (watch : PlainWatch) (word bytes : List ℕ) where
  found-spelled : (said : Watching) (t : TraceText) → trace_of bytes ≡ Ok t → IsWatchingOf watch t said → ReadsWatching watch word bytes (Ok said)
  found-spelled said t is says = subst (λ (read : Result TraceText TraceFault). ReadsBeside watch word read (Ok said)) (sym is) says

  pub found-streams : (watched : List StreamWatched) → IsWatchedText watch bytes (Ok watched) → FoundAs watch word bytes (Ok (findings.Streams watched))
  found-streams watched has = found-spelled (Watched watched) has.0 has.1.0 has.1.1

  pub found-header : (place : ℕ) → IsWatchedText watch bytes (Err (faults.OtherHeader place)) → FoundAs watch word bytes (Ok (findings.OtherHeader place))
  found-header place has = found-spelled (OtherHeader place) has.0 has.1.0 has.1.1

  misspelled-as : (fault : TraceFault) (refusal : Refusal) (reply : Reply) → refusal_of_trace word fault ≡ Some refusal → trace_of bytes ≡ Err fault → IsRefusedBy (Some refusal) reply
      → FoundAs watch word bytes (Err reply)
  misspelled-as fault refusal reply some is (inl says) =
      subst (λ (r : Reply). FoundAs watch word bytes (Err r)) (sym says)
      (subst (λ (read : Result TraceText TraceFault). ReadsBeside watch word read (Err (refusal_line refusal))) (sym is)
      (subst (λ (o : Option Refusal). RefusesBy {X = Watching} o (Err (refusal_line refusal))) (sym some) refl))
  misspelled-as fault refusal reply some is (inr memory) = subst (λ (r : Reply). FoundAs watch word bytes (Err r)) (sym memory) tt

  pub found-misspelled : (fault : TraceFault) (reply : Reply) → IsWatchedText watch bytes (Err (faults.Misspelled fault)) → IsRefusedBy (refusal_of_trace word fault) reply
      → FoundAs watch word bytes (Err reply)
  found-misspelled (reading.BadHeader line) reply has refused = misspelled-as (reading.BadHeader line) _ reply refl has refused
  found-misspelled reading.TooManyCycles reply has refused = misspelled-as reading.TooManyCycles _ reply refl has refused
  found-misspelled (reading.BadRow line) reply has refused = misspelled-as (reading.BadRow line) _ reply refl has refused
  found-misspelled (reading.WrongSignals line) reply has refused = misspelled-as (reading.WrongSignals line) _ reply refl has refused
  found-misspelled (reading.RowsMissing want got) reply has refused = misspelled-as (reading.RowsMissing want got) _ reply refl has refused
  found-misspelled (reading.RowsLeft line) reply has refused = misspelled-as (reading.RowsLeft line) _ reply refl has refused
  found-misspelled reading.Memory reply has refused = subst (λ (r : Reply). FoundAs watch word bytes (Err r)) (sym refused) tt

-- at the end of a file
pub watched-at_end : (file : WatchFile) (read : Result Seeing Reply) → IsFedSome file
    → ((bytes : List ℕ) → IsFed file.watcher bytes → FoundAs (watch_of_watcher file.watcher) file.word.now bytes read)
    → ReadsAs (watches_after file []) read
watched-at_end file (Ok one) some reads =
    λ bytes fed. subst (λ (l : List ℕ). ReadsWatching (watch_of_watcher file.watcher) file.word.now l (Ok (watching_in one))) (sym (append-nil bytes)) (reads bytes fed)
watched-at_end file (Err (replies.Says (answers.Refused line))) some reads =
    λ bytes fed. subst (λ (l : List ℕ). ReadsWatching (watch_of_watcher file.watcher) file.word.now l (Err line)) (sym (append-nil bytes)) (reads bytes fed)
watched-at_end file (Err (replies.Says (answers.Verdict line))) some reads = reads some.0 some.1
watched-at_end file (Err (replies.Says (answers.Done text))) some reads = reads some.0 some.1
watched-at_end file (Err (replies.ReadFault line)) some reads = reads some.0 some.1
watched-at_end file (Err replies.Memory) some reads = tt

-- the readings of a new reader
read-new : (watch : PlainWatch) (word : List ℕ) (file : WatchFile) (bytes : List ℕ) (read : Result Seeing (List ℕ)) → IsNewUnder watch word file → watches_after file bytes read
    → Seen watching_in (ReadsWatching watch word bytes) read
read-new watch word file bytes read new reads =
    subst (λ (w : PlainWatch). Seen watching_in (ReadsWatching w word bytes) read) new.watch_is
    (subst (λ (w : List ℕ). Seen watching_in (ReadsWatching (watch_of_watcher file.watcher) w bytes) read) new.word_is (reads [] new.fed))

pub asked-watcher : (watch : PlainWatch) (word : List ℕ) (reader : WatchFile) (told : Option Files) (file : FileWord) (old new : Option (List ℕ × ℕ)) (rose : Type 0) (read : Result Seeing Reply)
    → IsNewUnder watch word reader → IsAsked told file (watches_after reader) old new rose read → IsAsked told file (λ bytes. Seen watching_in (ReadsWatching watch word bytes)) old new rose read
asked-watcher watch word reader told file old new rose (Ok one) is asked = (asked.0, (asked.1.0, (read-new watch word reader asked.0 (Ok one) is asked.1.1.0, asked.1.1.1)))
asked-watcher watch word reader told file old new rose (Err reply) is (inl s) = inl s
asked-watcher watch word reader told file old new rose (Err reply) is (inr d) =
    inr (d.0, (d.1.0, (d.1.1.0, (read-new watch word reader d.0 (Err d.1.1.0) is d.1.1.1.0, d.1.1.1.1))))

-- ---- one for each stream

each-watched : (watch : PlainWatch) → CanWatch watch → (t : TraceText) (found : Watching) → IsWatchingOf watch t found → IsOfEach (length watch.heads) found
each-watched watch can t (Misspelled fault) is = tt
each-watched watch can t (OtherHeader place) is = tt
each-watched watch can t (Watched watched) is =
    let streams : length (streams_of t) ≡ length watch.heads = length-streams t 0 t.heads ∙ ap length is.0 in
    let processes = many-processes watch.heads watch.want watch.procs can.tables can.processes in
    ap length is.1 ∙ many-watched (processes_of watch) (streams_of t) (processes ∙ sym streams) ∙ streams

pub each-read : (watch : PlainWatch) → CanWatch watch → (word bytes : List ℕ) (found : Watching) → ReadsWatching watch word bytes (Ok found) → IsOfEach (length watch.heads) found
each-read watch can word bytes found reads = by (trace_of bytes) reads
  where
    by : (read : Result TraceText TraceFault) → ReadsBeside watch word read (Ok found) → IsOfEach (length watch.heads) found
    by (Ok t) is = each-watched watch can t found is
    by (Err fault) refused = absurd (not_read (refusal_of_trace word fault) found refused)

-- ---- a monitor that is read can run

few-all : (n : ℕ) (wants : List (List Item)) → n ≤ 67108864 → All (λ (want : List Item). length want < n) wants → All (λ (want : List Item). length want < 2 ^ 32 - 1) wants
few-all n [] most all = All-nil (λ (want : List Item). length want < 2 ^ 32 - 1)
few-all n (want ∷ wants) most all =
    let first = All-head (λ (w : List Item). length w < n) want wants all in
    All-cons (λ (w : List Item). length w < 2 ^ 32 - 1) want wants (omega (arith, most, first)) (few-all n wants most (All-tail (λ (w : List Item). length w < n) want wants all))

found-within : (told : Option Files) (word bytes : List ℕ) → IsFound told (monitor_file word) (Ok bytes) → length bytes ≤ 67108864
found-within None word bytes found = found
found-within (Some known) word bytes found = (found_bytes 67108864 (known word) bytes found).1

pub asked-monitor : MonitorsArePrintedAsRead → TablesAreShorterThanTheirText → (told : Option Files) (word : List ℕ) (old new : Option (List ℕ × ℕ)) (rose : Type 0) (result : Result Watch Reply)
    → IsAsked told (monitor_file word) (λ bytes. Seen plain_watch (ReadsWatch word bytes)) old new rose result → IfOk result (λ read. CanWatch (plain_watch read))
asked-monitor printed shorter told word old new rose (Err reply) asked = tt
asked-monitor printed shorter told word old new rose (Ok read) asked =
    let watch = plain_watch read in
    let is = printed asked.0 watch (watch-read word asked.0 watch asked.1.1.0) in
    let within : length (watch_text watch) ≤ 67108864 = subst (λ (l : List ℕ). length l ≤ 67108864) is.1 (found-within told word asked.0 asked.1.0) in
    record { tables = is.0.tables; processes = is.0.processes; few = few-all (length (watch_text watch)) watch.want within (shorter watch is.0) }
