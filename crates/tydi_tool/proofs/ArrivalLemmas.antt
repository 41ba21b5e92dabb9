-- A trace that is read as its text comes, and the answer to what arrives of it.
use Rattle.std.proofs.Common.{◌≡◌, ◌∙◌, ℕ, zero, suc, ◌<◌, ◌⊎◌, inl, inr, List, [], ◌∷◌, take}
use Rattle.std.proofs.Common.{Option, Some, None, Result, Ok, Err, IfOk, refl, sym, ap, subst, arith}
use Rattle.std.specs.Prelude.{MatchOption}
use Rattle.std.specs.List.{slice_get}
use Rattle.std.proofs.lemmas.List.{append-nil}
use Rattle.tydi_io.specs.Store.{Files}
use Rattle.physical_stream.specs.declared.head.Head.{Head}
use Rattle.cycle_trace.specs.ReaderView.{Finishes, StandsFor}
use Rattle.cycle_trace.specs.Trace.{TraceText}
use Rattle.cycle_trace.specs.TraceText.{trace_of}
use Rattle.cycle_trace.specs.Beginnings.{IsFault}
use Rattle.cycle_trace.specs.Faults.{fault_in}
use Rattle.cycle_trace.specs.declared.fault.TraceFault.{TraceFault}
use Rattle.cycle_trace.specs.declared.fault.TraceFault.TheVariants as reading
use Rattle.link_check.specs.Carry.{FirstOther, carried}
use Rattle.link_check.specs.declared.carrier.Carrier.{Carrier}
use Rattle.link_check.specs.declared.end_heads.EndHeads.{EndHeads}
use Rattle.link_check.specs.declared.kept_text.KeptText.{KeptText}
use Rattle.port_drive.specs.Text.{written_text}
use Rattle.tydi_tool.specs.declared.answer.Answer.{Answer}
use Rattle.tydi_tool.specs.declared.answer.Answer.TheVariants as answers
use Rattle.tydi_tool.specs.declared.answer.Reply.{Reply}
use Rattle.tydi_tool.specs.declared.answer.Reply.TheVariants as replies
use Rattle.tydi_tool.specs.declared.arrivals.Arrival.{Arrival}
use Rattle.tydi_tool.specs.declared.arrivals.Arrival.TheVariants as arrivals
use Rattle.tydi_tool.specs.declared.arrivals.ArrivalFile.{ArrivalFile}
use Rattle.tydi_tool.specs.Arrivals.{HasRows, IsArrival, IsNewArrival, Keeps, ReadsArrival, ReadsCycles, StandsForTrace, TellsArrived}
use Rattle.tydi_tool.specs.Arrivals.{arrives_after, ends_of, other_header}
use Rattle.tydi_tool.specs.Ask.{IsAsked, Judges}
use Rattle.tydi_tool.specs.Laws.{HasSome, ReadsOnce}
use Rattle.tydi_tool.specs.Outcome.{output_answer, output_too_long_line}
use Rattle.tydi_tool.specs.Reading.{IsRefusedBy, ReadsAs, ReadsResult, RefusesBy}
use Rattle.tydi_tool.specs.Refusals.{Refusal, refusal_line, refusal_of_trace}
use Rattle.tydi_tool.specs.Words.{FileWord}
use Rattle.tydi_tool.proofs.BenchLemmas.{result-apart, result-lines, result-read, result-same}
use Rattle.tydi_tool.proofs.LinkLemmas.{within-none, within-some}
use Rattle.tydi_tool.proofs.SomeLemmas.{cycles-refused}

-- ---- the text of a trace

pub ReadsCycles-once : (word : List ℕ) → ReadsOnce (ReadsCycles word)
ReadsCycles-once word = record {
  same = λ bytes x y p q. result-same (refusal_of_trace word) (trace_of bytes) x y p q;
  apart = λ bytes x line p q. result-apart (refusal_of_trace word) (trace_of bytes) x line p q;
  lines = λ bytes one other p q. result-lines (refusal_of_trace word) (trace_of bytes) one other p q;
}

pub ReadsCycles-some : (word bytes : List ℕ) → HasSome (Result TraceText (List ℕ)) (ReadsCycles word bytes)
ReadsCycles-some word bytes = by (trace_of bytes) refl
  where
    by : (read : Result TraceText TraceFault) → trace_of bytes ≡ read → HasSome (Result TraceText (List ℕ)) (ReadsResult (refusal_of_trace word) read)
    by (Ok t) is none = none (Ok t) refl
    by (Err fault) is none = let refused = cycles-refused word bytes fault is in none (Err refused.0) refused.1

pub cycles-read : (word bytes : List ℕ) (t : TraceText) → ReadsCycles word bytes (Ok t) → trace_of bytes ≡ Ok t
cycles-read word bytes t reads = result-read (refusal_of_trace word) (trace_of bytes) t reads

pub read-cycles : (word bytes : List ℕ) (t : TraceText) → trace_of bytes ≡ Ok t → ReadsCycles word bytes (Ok t)
read-cycles word bytes t is = subst (λ (r : Result TraceText TraceFault). ReadsResult (refusal_of_trace word) r (Ok t)) (sym is) refl

-- an error with a refusal is no want of memory
some-fault : (word line : List ℕ) (fault : TraceFault) → RefusesBy {X = TraceText} (refusal_of_trace word fault) (Err line) → fault_in fault ≡ Some fault
some-fault word line (reading.BadHeader number) refuses = refl
some-fault word line reading.TooManyCycles refuses = refl
some-fault word line (reading.BadRow number) refuses = refl
some-fault word line (reading.WrongSignals number) refuses = refl
some-fault word line (reading.RowsMissing want got) refuses = refl
some-fault word line (reading.RowsLeft number) refuses = refl
some-fault word line reading.Memory refuses = absurd refuses

-- the text has this error, which its reply tells
pub fault-read : (heads : EndHeads) (word bytes : List ℕ) (fault : TraceFault) (reply : Reply) → IsFault (trace_of bytes) fault
    → IsRefusedBy (refusal_of_trace word fault) reply
    → ReadsAs {X = Arrival} (ReadsArrival heads word bytes) (Err reply)
fault-read heads word bytes fault reply is refused = by_refusal (refusal_of_trace word fault) refl refused
  where
    by : (line : List ℕ) → RefusesBy {X = TraceText} (refusal_of_trace word fault) (Err line) → ReadsCycles word bytes (Err line)
    by line refuses =
        let read : trace_of bytes ≡ Err fault = subst (λ (o : Option TraceFault). MatchOption o (Unit {0}) (λ f. trace_of bytes ≡ Err f))
        (some-fault word line fault refuses) is in
        subst (λ (r : Result TraceText TraceFault). ReadsResult (refusal_of_trace word) r (Err line)) (sym read) refuses

    by_refusal : (refusal : Option Refusal) → refusal_of_trace word fault ≡ refusal → IsRefusedBy refusal reply
        → ReadsAs {X = Arrival} (ReadsArrival heads word bytes) (Err reply)
    by_refusal (Some refusal) some (inl says) = subst (λ (r : Reply). ReadsAs {X = Arrival} (ReadsArrival heads word bytes) (Err r)) (sym says)
        (by (refusal_line refusal) (subst (λ (o : Option Refusal). RefusesBy {X = TraceText} o (Err (refusal_line refusal))) (sym some) refl))
    by_refusal (Some refusal) some (inr memory) = subst (λ (r : Reply). ReadsAs {X = Arrival} (ReadsArrival heads word bytes) (Err r)) (sym memory) tt
    by_refusal None none memory = subst (λ (r : Reply). ReadsAs {X = Arrival} (ReadsArrival heads word bytes) (Err r)) (sym memory) tt

-- ---- the first head that is another

take-within : (heads : List Head) (i j : ℕ) → i < j → slice_get (take j heads) i ≡ slice_get heads i
take-within [] i zero less = absurd (omega (arith, less))
take-within [] i (suc j) less = refl
take-within (head ∷ more) i zero less = absurd (omega (arith, less))
take-within (head ∷ more) zero (suc j) less = refl
take-within (head ∷ more) (suc i) (suc j) less = take-within more i j (omega (arith, less))

not-before : (heads others : List Head) (i j : ℕ) → FirstOther heads others i → FirstOther heads others j → i < j → ⊥
not-before heads others i j x y less =
    x.here (sym (take-within heads i j less) ∙ ap (λ (l : List Head). slice_get l i) y.before ∙ take-within others i j less)

compared : (i j : ℕ) → (i < j) ⊎ ((i ≡ j) ⊎ (j < i))
compared i j = grind arith

first-one : (heads others : List Head) (i j : ℕ) → FirstOther heads others i → FirstOther heads others j → i ≡ j
first-one heads others i j x y = by (compared i j)
  where
    by : (i < j) ⊎ ((i ≡ j) ⊎ (j < i)) → i ≡ j
    by (inl less) = absurd (not-before heads others i j x y less)
    by (inr (inl same)) = same
    by (inr (inr more)) = absurd (not-before heads others j i y x more)

one-inside : (one other : Head) → ◌≡◌ {A = Option Head} (Some one) (Some other) → one ≡ other
one-inside one other e = cc

-- after a head that both have, no later head is another
none-after : (head other : Head) (heads others : List Head) → head ≡ other → ((stream : ℕ) → FirstOther (head ∷ heads) (other ∷ others) stream → ⊥)
    → (stream : ℕ) → FirstOther heads others stream → ⊥
none-after head other heads others same none stream first = none (suc stream) (record {
  before = ap (λ (l : List Head). head ∷ l) first.before ∙ ap (λ (h : Head). h ∷ take stream others) same;
  here = first.here;
})

-- lists without such a head are not different
no-other : (heads others : List Head) → ((stream : ℕ) → FirstOther heads others stream → ⊥) → (heads ≡ others → ⊥) → ⊥
no-other [] [] none differ = differ refl
no-other [] (other ∷ others) none differ = none 0 (record { before = refl; here = λ e. absurd cc })
no-other (head ∷ heads) [] none differ = none 0 (record { before = refl; here = λ e. absurd cc })
no-other (head ∷ heads) (other ∷ others) none differ = by (no-other heads others)
  where
    by : (((stream : ℕ) → FirstOther heads others stream → ⊥) → (heads ≡ others → ⊥) → ⊥) → ⊥
    by after = none 0 (record {
      before = refl;
      here = λ e. let same = one-inside head other e in
          after (none-after head other heads others same none)
          (λ also. differ (ap (λ (h : Head). h ∷ heads) same ∙ ap (λ (l : List Head). other ∷ l) also));
    })

-- ---- the answer

pub arrived-one : (word : List ℕ) (heads : EndHeads) (t : TraceText) (a b : Answer) → TellsArrived word heads t a → TellsArrived word heads t b → a ≡ b
arrived-one word heads t a b (inl p) (inl q) = p.1 ∙ sym q.1
arrived-one word heads t a b (inl p) (inr q) = absurd (q.first.here (ap (λ (l : List Head). slice_get l q.stream) (sym p.0)))
arrived-one word heads t a b (inr p) (inl q) = absurd (p.first.here (ap (λ (l : List Head). slice_get l p.stream) (sym q.0)))
arrived-one word heads t a b (inr p) (inr q) =
    p.is ∙ ap (λ n. answers.Refused (refusal_line (other_header word n))) (first-one heads.from t.heads p.stream q.stream p.first q.first) ∙ sym q.is

pub arrived-some : (word : List ℕ) (heads : EndHeads) (t : TraceText) → HasSome Answer (TellsArrived word heads t)
arrived-some word heads t none =
    no-other heads.from t.heads (λ stream first. none (answers.Refused (refusal_line (other_header word stream)))
    (inr (record { stream = stream; first = first; is = refl })))
    (λ same. none (output_answer (written_text (carried heads.to t))) (inl (sym same, refl)))

-- the text that was kept, as the answer
pub kept-told : (word : List ℕ) (heads : EndHeads) (t : TraceText) (text : List ℕ) (reply : Reply) → IsArrival heads t (arrivals.Arrived (Some text))
    → reply ≡ replies.Says (answers.Done text)
    → Judges (TellsArrived word heads t) reply
kept-told word heads t text reply is says = subst (Judges (TellsArrived word heads t)) (sym says)
    (inl (is.0, sym (within-some (written_text (carried heads.to t)) text is.1)))

pub long-told : (word : List ℕ) (heads : EndHeads) (t : TraceText) (reply : Reply) → IsArrival heads t (arrivals.Arrived None)
    → (reply ≡ replies.Says (answers.Refused output_too_long_line)) ⊎ (reply ≡ replies.Memory) → Judges (TellsArrived word heads t) reply
long-told word heads t reply is (inl says) = subst (Judges (TellsArrived word heads t)) (sym says)
    (inl (is.0, sym (within-none (written_text (carried heads.to t)) is.1)))
long-told word heads t reply is (inr memory) = subst (Judges (TellsArrived word heads t)) (sym memory) tt

pub other-told : (word : List ℕ) (heads : EndHeads) (t : TraceText) (stream : ℕ) (reply : Reply) → IsArrival heads t (arrivals.Other stream)
    → IsRefusedBy (Some (other_header word stream)) reply → Judges (TellsArrived word heads t) reply
other-told word heads t stream reply is (inl says) = subst (Judges (TellsArrived word heads t)) (sym says)
    (inr (record { stream = stream; first = is; is = refl }))
other-told word heads t stream reply is (inr memory) = subst (Judges (TellsArrived word heads t)) (sym memory) tt

-- ---- a reader of the trace

-- the readings of a new reader
read_new : (word : List ℕ) (heads : EndHeads) (file : ArrivalFile) (bytes : List ℕ) (read : Result Arrival (List ℕ)) → IsNewArrival word heads file
    → arrives_after file bytes read → ReadsArrival heads word bytes read
read_new word heads file bytes read new reads =
    subst (λ (h : EndHeads). ReadsArrival h word bytes read) new.heads_are (subst (λ (w : List ℕ). ReadsArrival (ends_of file.reader.sink) w bytes read)
    new.word_is (reads [] new.stands))

-- a trace that was asked for so, and what arrives of it
pub asked-arrival : (word : List ℕ) (heads : EndHeads) (reader : ArrivalFile) (told : Option Files) (file : FileWord) (old new : Option (List ℕ × ℕ))
    (rose : Type 0) (arrival : Arrival) → IsNewArrival word heads reader
    → IsAsked told file (arrives_after reader) old new rose (Ok arrival)
    → (t : TraceText) × (IsArrival heads t arrival × IsAsked told file (ReadsCycles word) old new rose (Ok t))
asked-arrival word heads reader told file old new rose arrival is asked =
    let read = read_new word heads reader asked.0 (Ok arrival) is asked.1.1.0 in
    (read.0, (read.1.1, (asked.0, (asked.1.0, (read-cycles word asked.0 read.0 read.1.0, asked.1.1.1)))))

pub asked-refused : (word : List ℕ) (heads : EndHeads) (reader : ArrivalFile) (told : Option Files) (file : FileWord) (old new : Option (List ℕ × ℕ))
    (rose : Type 0) (reply : Reply) → IsNewArrival word heads reader
    → IsAsked told file (arrives_after reader) old new rose (Err reply) → IsAsked {X = TraceText} told file (ReadsCycles word) old new rose (Err reply)
asked-refused word heads reader told file old new rose reply is (inl s) = inl s
asked-refused word heads reader told file old new rose reply is (inr d) =
    inr (d.0, (d.1.0, (d.1.1.0, (read_new word heads reader d.0 (Err d.1.1.0) is d.1.1.1.0, d.1.1.1.1))))

-- what a carrier was made with
pub ends-stay : (one other : Carrier KeptText) → ◌≡◌ {A = List Head × (List Head × Unit {0})} (one.from, (one.to.heads, tt))
    (other.from, (other.to.heads, tt)) → ends_of one ≡ ends_of other
ends-stay one other same = ap (λ (s : List Head × (List Head × Unit {0})). record { from = s.0; to = s.1.0 }) same

pub ends-finished : (made : Carrier KeptText) (finished : Result (Carrier KeptText) TraceFault)
    → IfOk finished (λ carrier. ◌≡◌ {A = List Head × (List Head × Unit {0})} (carrier.from, (carrier.to.heads, tt)) (made.from, (made.to.heads, tt)))
    → IfOk finished (λ carrier. ends_of carrier ≡ ends_of made)
ends-finished made (Ok carrier) same = ends-stay carrier made same
ends-finished made (Err fault) same = tt

-- at the end
pub HasRows-finished : (heads : EndHeads) (finished : Result (Carrier KeptText) TraceFault) (read : Result TraceText TraceFault)
    → IfOk finished (λ carrier. ends_of carrier ≡ heads) → Finishes Keeps read finished
    → HasRows heads finished
HasRows-finished heads (Ok carrier) read ends h = (ends, (h.0, h.1.1))
HasRows-finished heads (Err fault) read ends h = tt

pub ReadsAs-arrived : (file : ArrivalFile) (finished : Result (Carrier KeptText) TraceFault) (read : Result Arrival Reply) → StandsForTrace file
    → ((bytes : List ℕ) → StandsFor Keeps file.reader bytes → Finishes Keeps (trace_of bytes) finished)
    → ((bytes : List ℕ) → Finishes Keeps (trace_of bytes) finished → ReadsAs (ReadsArrival (ends_of file.reader.sink) file.word.now bytes) read)
    → ReadsAs (arrives_after file []) read
ReadsAs-arrived file finished (Ok arrival) some finishes reads =
    λ bytes stands. subst (λ (l : List ℕ). ReadsArrival (ends_of file.reader.sink) file.word.now l (Ok arrival)) (sym (append-nil bytes))
    (reads bytes (finishes bytes stands))
ReadsAs-arrived file finished (Err (replies.Says (answers.Refused line))) some finishes reads =
    λ bytes stands. subst (λ (l : List ℕ). ReadsCycles file.word.now l (Err line)) (sym (append-nil bytes)) (reads bytes (finishes bytes stands))
ReadsAs-arrived file finished (Err (replies.Says (answers.Verdict line))) some finishes reads = reads some.0 (finishes some.0 some.1)
ReadsAs-arrived file finished (Err (replies.Says (answers.Done text))) some finishes reads = reads some.0 (finishes some.0 some.1)
ReadsAs-arrived file finished (Err (replies.ReadFault line)) some finishes reads = reads some.0 (finishes some.0 some.1)
ReadsAs-arrived file finished (Err replies.Memory) some finishes reads = tt

-- the trace arrives
pub arrival-read : (word : List ℕ) (heads : EndHeads) (carrier : Carrier KeptText) (arrival : Arrival) → ends_of carrier ≡ heads
    → ((t : TraceText) → Keeps carrier (Some t) → IsArrival (ends_of carrier) t arrival)
    → (bytes : List ℕ) → Finishes Keeps (trace_of bytes) (Ok carrier) → ReadsAs (ReadsArrival heads word bytes) (Ok arrival)
arrival-read word heads carrier arrival ends arrives bytes finishes =
    (finishes.0, (finishes.1.0, subst (λ (h : EndHeads). IsArrival h finishes.0 arrival) ends (arrives finishes.0 finishes.1.1)))

-- the same, of what was read to its end
pub arrival-finished : (word : List ℕ) (heads : EndHeads) (carrier : Carrier KeptText) (finished : Result (Carrier KeptText) TraceFault) (arrival : Arrival)
    → finished ≡ Ok carrier → ((t : TraceText) → Keeps carrier (Some t) → IsArrival (ends_of carrier) t arrival)
    → (bytes : List ℕ) → HasRows heads finished → Finishes Keeps (trace_of bytes) finished → ReadsAs (ReadsArrival heads word bytes) (Ok arrival)
arrival-finished word heads carrier finished arrival is arrives bytes has finishes =
    let rows : HasRows heads (Ok carrier) = subst (HasRows heads) is has in
    arrival-read word heads carrier arrival rows.0 arrives bytes (subst (Finishes Keeps (trace_of bytes)) is finishes)
