-- A dump is read in one way, and always; and a reader of it, which keeps the text of the trace.
use Rattle.std.proofs.Common.{◌≡◌, ◌∙◌, ℕ, ◌<◌, ◌⊎◌, inl, inr, Bool, true, false, List, [], ◌∷◌, length, nat_lt, cond}
use Rattle.std.proofs.Common.{Option, Some, None, Result, Ok, Err, refl, sym, ap, subst}
use Rattle.std.specs.Prelude.{MatchOption}
use Rattle.std.proofs.lemmas.List.{append-nil, length-map}
use Rattle.tydi_io.specs.Store.{Files}
use Rattle.cycle_trace.specs.Trace.{TraceText}
use Rattle.port_drive.specs.Drives.{head_of_stream, heads_of}
use Rattle.port_drive.specs.Text.{written_text}
use Rattle.type_split.specs.Streams.{PlainSplit, plain_split}
use Rattle.tydi_base.specs.Reading.{Gives}
use Rattle.vcd_read.specs.Kept.{if_kept, kept_bytes, kept_text, most_kept}
use Rattle.vcd_read.specs.Laws.{FaultsNameStreams, IsOfDump}
use Rattle.vcd_read.specs.Reader.{StandsFor}
use Rattle.vcd_read.specs.Shown.{fault_in, shown}
use Rattle.vcd_read.specs.Wanted.{Wanted}
use Rattle.vcd_read.specs.declared.dump_text.DumpText.{DumpText}
use Rattle.vcd_read.specs.declared.fault.VcdFault.{VcdFault}
use Rattle.vcd_read.specs.declared.fault.VcdFault.TheVariants as faults
use Rattle.tydi_tool.specs.declared.answer.Answer.TheVariants as answers
use Rattle.tydi_tool.specs.declared.answer.Reply.{Reply}
use Rattle.tydi_tool.specs.declared.answer.Reply.TheVariants as replies
use Rattle.tydi_tool.specs.declared.vcd_file.VcdFile.{VcdFile}
use Rattle.tydi_tool.specs.Ask.{AsksFor, IsAsked, Judges}
use Rattle.tydi_tool.specs.Commands.{dump_ask}
use Rattle.tydi_tool.specs.Dumps.{IsFedSome, IsKeptText, IsNewDump, NamesStream, NamesStreamOf, ReadsDump, ReadsKept, refusal_of_dump, shows_after, wanted_of}
use Rattle.tydi_tool.specs.Laws.{AsksAlways, AsksOnce, HasSome, ReadsOnce}
use Rattle.tydi_tool.specs.Outcome.{output_answer, output_limit}
use Rattle.tydi_tool.specs.Reading.{IsRefusedBy, ReadsAs, ReadsResult, RefusesBy}
use Rattle.tydi_tool.specs.Words.{FileWord, dump_file}
use Rattle.tydi_tool.proofs.AskLemmas.{Judges-either}
use Rattle.tydi_tool.proofs.BenchLemmas.{result-apart, result-lines, result-read, result-same, result-some}
use Rattle.tydi_tool.proofs.CauseLines.{by_line, line_of}
use Rattle.tydi_tool.proofs.CauseSteps.{test_over}
use Rattle.tydi_tool.proofs.TextLemmas.{refused-as}

-- ---- one reading, and some

ReadsDump-once : (scope word : List ℕ) (split : PlainSplit) → ReadsOnce (ReadsDump scope word split)
ReadsDump-once scope word split = record {
  same = λ bytes x y p q. result-same (refusal_of_dump split word) (shown (wanted_of scope split) bytes) x y p q;
  apart = λ bytes x line p q. result-apart (refusal_of_dump split word) (shown (wanted_of scope split) bytes) x line p q;
  lines = λ bytes one other p q. result-lines (refusal_of_dump split word) (shown (wanted_of scope split) bytes) one other p q;
}

ReadsDump-some : FaultsNameStreams → (scope word : List ℕ) (split : PlainSplit) (bytes : List ℕ) → HasSome (Result TraceText (List ℕ)) (ReadsDump scope word split bytes)
ReadsDump-some names scope word split bytes = result-some (refusal_of_dump split word) (shown (wanted_of scope split) bytes) told
  where
    told : (fault : VcdFault) → shown (wanted_of scope split) bytes ≡ Err fault → refusal_of_dump split word fault ≡ None → ⊥
    told (faults.Syntax offset) is none = cc
    told (faults.TimeBack offset) is none = cc
    told faults.NoClock is none = cc
    told (faults.NoSignal stream signal) is none = cc
    told (faults.OtherWidth stream signal) is none = cc
    told faults.TooManyCycles is none = cc
    told (faults.NotBit cycle stream) is none = cc
    told faults.Memory is none = names (wanted_of scope split) bytes faults.Memory is

pub dump-once : (scope file : List ℕ) (split : PlainSplit) → AsksOnce (dump_ask scope file split)
dump-once scope file split = (ReadsDump-once scope file split, λ bytes t reads a b p q. p ∙ sym q)

pub dump-always : FaultsNameStreams → (scope file : List ℕ) (split : PlainSplit) → AsksAlways (dump_ask scope file split)
dump-always names scope file split = (ReadsDump-some names scope file split, λ bytes t reads none. none (output_answer (written_text t)) refl)

pub dump-for : (scope file : List ℕ) (split : PlainSplit) → AsksFor (dump_file file ∷ []) (dump_ask scope file split)
dump-for scope file split = (refl, λ t. tt)

pub dump-read : (scope word : List ℕ) (split : PlainSplit) (bytes : List ℕ) (t : TraceText) → ReadsDump scope word split bytes (Ok t)
    → shown (wanted_of scope split) bytes ≡ Ok t
dump-read scope word split bytes t reads = result-read (refusal_of_dump split word) (shown (wanted_of scope split) bytes) t reads

pub read-dump : (scope word : List ℕ) (split : PlainSplit) (bytes : List ℕ) (t : TraceText) → shown (wanted_of scope split) bytes ≡ Ok t
    → ReadsDump scope word split bytes (Ok t)
read-dump scope word split bytes t is = subst (λ (r : Result TraceText VcdFault). ReadsResult (refusal_of_dump split word) r (Ok t)) (sym is) refl

-- ---- what is found of a dump

-- the trace whose text is kept
kept-trace : (read : Result TraceText VcdFault) (kept : Option DumpText) → kept_text read ≡ Ok (kept_bytes kept)
    → (t : TraceText) × ((read ≡ Ok t) × IsKeptText t kept)
unfolding kept_text
kept-trace (Ok t) kept is = (t, (refl, let e : kept_bytes kept ≡ if_kept (written_text t) = (let same = is in cc) in e))
kept-trace (Err fault) kept is = absurd (let e = is in cc)

pub kept-read : (wanted : Wanted) (split : PlainSplit) (word bytes : List ℕ) (kept : Option DumpText)
    → Gives fault_in kept_bytes (Ok kept) (kept_text (shown wanted bytes)) → ReadsAs (ReadsKept wanted split word bytes) (Ok kept)
kept-read wanted split word bytes kept gives = kept-trace (shown wanted bytes) kept gives

-- an error with a refusal is no want of memory
some-fault : (split : PlainSplit) (word line : List ℕ) (fault : VcdFault) → RefusesBy {X = TraceText} (refusal_of_dump split word fault) (Err line)
    → fault_in fault ≡ Some fault
some-fault split word line (faults.Syntax offset) refuses = refl
some-fault split word line (faults.TimeBack offset) refuses = refl
some-fault split word line faults.NoClock refuses = refl
some-fault split word line (faults.NoSignal stream signal) refuses = refl
some-fault split word line (faults.OtherWidth stream signal) refuses = refl
some-fault split word line faults.TooManyCycles refuses = refl
some-fault split word line (faults.NotBit cycle stream) refuses = refl
some-fault split word line faults.Memory refuses = absurd refuses

-- a text is not kept for this error alone
kept-fault : (read : Result TraceText VcdFault) (fault : VcdFault) → kept_text read ≡ Err fault → read ≡ Err fault
unfolding kept_text
kept-fault (Ok t) fault is = absurd (let e = is in cc)
kept-fault (Err other) fault is = let e : other ≡ fault = (let same = is in cc) in ap Err e

pub fault-read : (wanted : Wanted) (split : PlainSplit) (word bytes : List ℕ) (fault : VcdFault) (reply : Reply)
    → Gives {X = Option DumpText} fault_in kept_bytes (Err fault) (kept_text (shown wanted bytes)) → IsRefusedBy (refusal_of_dump split word fault) reply
    → ReadsAs (ReadsKept wanted split word bytes) (Err reply)
fault-read wanted split word bytes fault reply gives refused =
    refused-as (Option DumpText) (refusal_of_dump split word fault) reply (ReadsKept wanted split word bytes) by refused
  where
    by : (line : List ℕ) → RefusesBy {X = Option DumpText} (refusal_of_dump split word fault) (Err line) → ReadsKept wanted split word bytes (Err line)
    by line refuses =
        let own : RefusesBy {X = TraceText} (refusal_of_dump split word fault) (Err line)
        = by_line TraceText (refusal_of_dump split word fault) line (line_of (Option DumpText) (refusal_of_dump split word fault) line refuses) in
        let read : shown wanted bytes ≡ Err fault
        = kept-fault (shown wanted bytes) fault (subst (λ (o : Option VcdFault). MatchOption o (Unit {0}) (λ f. kept_text (shown wanted bytes) ≡ Err f))
        (some-fault split word line fault own) gives) in
        subst (λ (r : Result TraceText VcdFault). ReadsResult (refusal_of_dump split word) r (Err line)) (sym read) own

-- an error that is found names a stream of the port
of-dump : (streams : ℕ) (fault : VcdFault) → (fault_in fault ≡ Some fault → IsOfDump streams fault) → NamesStream streams fault
of-dump streams (faults.Syntax offset) is = tt
of-dump streams (faults.TimeBack offset) is = tt
of-dump streams faults.NoClock is = tt
of-dump streams (faults.NoSignal stream signal) is = is refl
of-dump streams (faults.OtherWidth stream signal) is = is refl
of-dump streams faults.TooManyCycles is = tt
of-dump streams (faults.NotBit cycle stream) is = is refl
of-dump streams faults.Memory is = tt

pub names-stream : FaultsNameStreams → (wanted : Wanted) (bytes : List ℕ) (streams : ℕ) (finished : Result (Option DumpText) VcdFault) → length wanted.heads ≡ streams
    → Gives fault_in kept_bytes finished (kept_text (shown wanted bytes)) → NamesStreamOf streams finished
names-stream names wanted bytes streams (Ok kept) many gives = tt
names-stream names wanted bytes streams (Err fault) many gives = subst (λ (n : ℕ). NamesStream n fault) many (of-dump (length wanted.heads) fault
    (λ some. names wanted bytes fault (kept-fault (shown wanted bytes) fault
    (subst (λ (o : Option VcdFault). MatchOption o (Unit {0}) (λ f. kept_text (shown wanted bytes) ≡ Err f)) some gives))))

-- ---- a reader of a dump

-- it looks for the signals of as many streams as its port has
pub many-streams : (file : VcdFile) (some : IsFedSome file) → length some.wanted.heads ≡ length (plain_split file.split.now).streams
many-streams file some = ap length some.heads ∙ length-map (plain_split file.split.now).streams head_of_stream

-- at the end of a file
pub kept-at_end : (file : VcdFile) (read : Result (Option DumpText) Reply) → IsFedSome file
    → ((wanted : Wanted) (bytes : List ℕ) → StandsFor wanted file.reader bytes → ReadsAs (ReadsKept wanted (plain_split file.split.now) file.word.now bytes) read)
    → ReadsAs (shows_after file []) read
kept-at_end file (Ok kept) some reads =
    λ wanted bytes stands. subst (λ (l : List ℕ). ReadsKept wanted (plain_split file.split.now) file.word.now l (Ok kept)) (sym (append-nil bytes))
    (reads wanted bytes stands)
kept-at_end file (Err (replies.Says (answers.Refused line))) some reads =
    λ wanted bytes stands. subst (λ (l : List ℕ). ReadsKept wanted (plain_split file.split.now) file.word.now l (Err line)) (sym (append-nil bytes))
    (reads wanted bytes stands)
kept-at_end file (Err (replies.Says (answers.Verdict line))) some reads = reads some.wanted some.bytes some.stands
kept-at_end file (Err (replies.Says (answers.Done text))) some reads = reads some.wanted some.bytes some.stands
kept-at_end file (Err (replies.ReadFault line)) some reads = reads some.wanted some.bytes some.stands
kept-at_end file (Err replies.Memory) some reads = tt

-- the readings of a new reader
read-new : (scope word : List ℕ) (split : PlainSplit) (file : VcdFile) (bytes : List ℕ) (read : Result (Option DumpText) (List ℕ))
    → IsNewDump scope word split file → shows_after file bytes read → ReadsKept (wanted_of scope split) split word bytes read
read-new scope word split file bytes read new reads =
    subst (λ (s : PlainSplit). ReadsKept (wanted_of scope split) s word bytes read) new.split_is
    (subst (λ (w : List ℕ). ReadsKept (wanted_of scope split) (plain_split file.split.now) w bytes read) new.word_is
    (reads (wanted_of scope split) [] new.stands))

pub new-some : (scope word : List ℕ) (split : PlainSplit) (file : VcdFile) → IsNewDump scope word split file → IsFedSome file
new-some scope word split file new = record {
  wanted = wanted_of scope split;
  bytes = [];
  stands = new.stands;
  count = new.none;
  heads = ap heads_of (sym new.split_is);
}

-- a dump that was asked for so, and the trace that it shows
pub asked-dump : (scope word : List ℕ) (split : PlainSplit) (reader : VcdFile) (told : Option Files) (file : FileWord) (old new : Option (List ℕ × ℕ))
    (rose : Type 0) (kept : Option DumpText) → IsNewDump scope word split reader
    → IsAsked told file (shows_after reader) old new rose (Ok kept)
    → (t : TraceText) × (IsKeptText t kept × IsAsked told file (ReadsDump scope word split) old new rose (Ok t))
asked-dump scope word split reader told file old new rose kept is asked =
    let read = read-new scope word split reader asked.0 (Ok kept) is asked.1.1.0 in
    (read.0, (read.1.1, (asked.0, (asked.1.0, (read-dump scope word split asked.0 read.0 read.1.0, asked.1.1.1)))))

pub asked-refused : (scope word : List ℕ) (split : PlainSplit) (reader : VcdFile) (told : Option Files) (file : FileWord) (old new : Option (List ℕ × ℕ))
    (rose : Type 0) (reply : Reply) → IsNewDump scope word split reader
    → IsAsked told file (shows_after reader) old new rose (Err reply) → IsAsked {X = TraceText} told file (ReadsDump scope word split) old new rose (Err reply)
asked-refused scope word split reader told file old new rose reply is (inl s) = inl s
asked-refused scope word split reader told file old new rose reply is (inr d) =
    inr (d.0, (d.1.0, (d.1.1.0, (read-new scope word split reader d.0 (Err d.1.1.0) is d.1.1.1.0, d.1.1.1.1))))

-- ---- the answer

-- a text that is kept is the text
same-text : (text whole : List ℕ) → Some text ≡ if_kept whole → text ≡ whole
same-text text whole is = by (nat_lt most_kept (length whole)) is
  where
    by : (long : Bool) → ◌≡◌ {A = Option (List ℕ)} (Some text) (cond long None (Some whole)) → text ≡ whole
    by true is = absurd (let e = is in cc)
    by false is = let e = is in cc

pub kept-told : (t : TraceText) (text : List ℕ) (reply : Reply) → Some text ≡ if_kept (written_text t)
    → (reply ≡ replies.Says (output_answer text)) ⊎ (reply ≡ replies.Memory) → Judges (λ a. a ≡ output_answer (written_text t)) reply
kept-told t text reply is says =
    subst (λ (l : List ℕ). Judges (λ a. a ≡ output_answer l) reply) (same-text text (written_text t) is) (Judges-either (output_answer text) reply says)

-- a text that is not kept is too long
pub none-long : (whole : List ℕ) → ◌≡◌ {A = Option (List ℕ)} None (if_kept whole) → output_limit < length whole
none-long whole is = by (nat_lt most_kept (length whole)) refl is
  where
    by : (long : Bool) → nat_lt most_kept (length whole) ≡ long → ◌≡◌ {A = Option (List ℕ)} None (cond long None (Some whole)) → output_limit < length whole
    by true long is = test_over output_limit (length whole) long
    by false short is = absurd (let e = is in cc)
