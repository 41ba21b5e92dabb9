-- The text of a trace is read as its outcome against a port in one way, and each outcome is one answer.
use Rattle.std.proofs.Common.{◌≡◌, ◌∙◌, ℕ, ◌<◌, inl, inr, List, [], ◌∷◌, length, Option, Some, Result, Ok, Err, refl, sym, ap, subst, arith}
use Rattle.std.proofs.lemmas.List.{append-nil, length-map}
use Rattle.std.proofs.lemmas.Option.{slice_get_within}
use Rattle.cycle_trace.specs.Survey.{UnfinishedStream, first_unfinished}
use Rattle.cycle_trace.specs.Trace.{TraceText, streams_of}
use Rattle.cycle_trace.specs.TraceText.{trace_of}
use Rattle.cycle_trace.specs.declared.fault.TraceFault.{TraceFault}
use Rattle.cycle_trace.specs.declared.fault.TraceFault.TheVariants as reading
use Rattle.cycle_trace.proofs.StreamLemmas.{length-streams}
use Rattle.cycle_trace.proofs.TraceFaults.{trace_free}
use Rattle.logical_value.specs.Tree.{plain_port}
use Rattle.port_drive.specs.Drives.{head_of_stream, heads_of}
use Rattle.trace_decode.specs.Outcome.{Carried, Disagrees, IsOutcome, Offends, OtherHeader, Outcome, Unfinished}
use Rattle.trace_decode.specs.Standing.{CanDecode}
use Rattle.trace_decode.specs.Texts.{IsFed, IsReadBack, IsTextOutcome, Misspelled, Spelled, TextOutcome, split_of}
use Rattle.trace_decode.specs.declared.decoded.Decoded.{Decoded}
use Rattle.trace_decode.specs.declared.fault.DecodeFault.{DecodeFault}
use Rattle.trace_decode.specs.declared.fault.DecodeFault.TheVariants as faults
use Rattle.trace_decode.specs.declared.text_fault.TextFault.TheVariants as texts
use Rattle.trace_decode.proofs.LawLemmas.{one_outcome}
use Rattle.type_split.specs.Streams.{IsPortSplit, PlainSplit}
use Rattle.tydi_io.specs.Store.{Files}
use Rattle.tydi_tool.specs.declared.answer.Answer.{Answer}
use Rattle.tydi_tool.specs.declared.answer.Answer.TheVariants as answers
use Rattle.tydi_tool.specs.declared.answer.Reply.{Reply}
use Rattle.tydi_tool.specs.declared.answer.Reply.TheVariants as replies
use Rattle.tydi_tool.specs.declared.decode_file.DecodeFile.{DecodeFile}
use Rattle.tydi_tool.specs.declared.decoding.Decoding.{Decoding}
use Rattle.tydi_tool.specs.declared.decoding.Decoding.TheVariants as found
use Rattle.tydi_tool.specs.Ask.{AsksFor, IsAsked}
use Rattle.tydi_tool.specs.Commands.{outcome_ask}
use Rattle.tydi_tool.specs.DecodeFiles.{IsFedSome, IsNewFor, decodes_after}
use Rattle.tydi_tool.specs.Decodes.{IsFound, NamesStream, ReadsOutcome, ReadsOutcomeOf, TellsOutcome, outcome_in}
use Rattle.tydi_tool.specs.Drives.{carried, path_of}
use Rattle.tydi_tool.specs.Laws.{AsksAlways, AsksOnce, HasSome, ReadsOnce}
use Rattle.tydi_tool.specs.Reading.{IsRefusedBy, ReadsAs, RefusesBy, Seen}
use Rattle.tydi_tool.specs.Refusals.{Refusal, refusal_line, refusal_of_trace}
use Rattle.tydi_tool.specs.Words.{FileWord, trace_file}
use Rattle.tydi_tool.proofs.AnswerLemmas.{RefusesBy-line, ReportsEnd-one, not_read}
use Rattle.tydi_tool.proofs.ReportLemmas.{IsAmong, first_unfinished-among}
use Rattle.tydi_tool.proofs.SomeLemmas.{RefusesBy-trace, ReportsEnd-some}
use Rattle.tydi_tool.proofs.StepLemmas.{none-uncarried}

-- ---- one reading, one answer

module _ (split : PlainSplit) (can : CanDecode split) (word : List ℕ) where
  outcome-same : (read : Result TraceText TraceFault) (x y : Outcome) → ReadsOutcomeOf split word read (Ok x) → ReadsOutcomeOf split word read (Ok y) → x ≡ y
  outcome-same (Ok t) x y p q = one_outcome split can t x y p q
  outcome-same (Err fault) x y p q = absurd (not_read (refusal_of_trace word fault) x p)

  outcome-apart : (read : Result TraceText TraceFault) (x : Outcome) (line : List ℕ) → ReadsOutcomeOf split word read (Ok x) → ReadsOutcomeOf split word read (Err line) → ⊥
  outcome-apart (Ok t) x line p q = q
  outcome-apart (Err fault) x line p q = not_read (refusal_of_trace word fault) x p

  outcome-lines : (read : Result TraceText TraceFault) (one other : List ℕ) → ReadsOutcomeOf split word read (Err one) → ReadsOutcomeOf split word read (Err other) → one ≡ other
  outcome-lines (Ok t) one other p q = absurd p
  outcome-lines (Err fault) one other p q = RefusesBy-line Outcome (refusal_of_trace word fault) one other p q

  pub ReadsOutcome-once : ReadsOnce (ReadsOutcome split word)
  ReadsOutcome-once = record {
    same = λ bytes x y p q. outcome-same (trace_of bytes) x y p q;
    apart = λ bytes x line p q. outcome-apart (trace_of bytes) x line p q;
    lines = λ bytes one other p q. outcome-lines (trace_of bytes) one other p q;
  }

TellsOutcome-one : (split : PlainSplit) (word : List ℕ) (outcome : Outcome) (a b : Answer) → TellsOutcome split word outcome a → TellsOutcome split word outcome b → a ≡ b
TellsOutcome-one split word (OtherHeader place) a b p q = p ∙ sym q
TellsOutcome-one split word (Offends first) a b p q = p ∙ sym q
TellsOutcome-one split word (Unfinished left) a b p q = ReportsEnd-one (path_of split left.stream) left.end a b p q
TellsOutcome-one split word (Disagrees place) a b p q = p ∙ sym q
TellsOutcome-one split word (Carried value users) a b p q = p ∙ sym q

pub outcome-once : (trace : List ℕ) (split : PlainSplit) → CanDecode split → AsksOnce (outcome_ask trace split)
outcome-once trace split can = (ReadsOutcome-once split can trace, λ bytes outcome reads a b p q. TellsOutcome-one split trace outcome a b p q)

pub outcome-for : (trace : List ℕ) (split : PlainSplit) → AsksFor (trace_file trace ∷ []) (outcome_ask trace split)
outcome-for trace split = (refl, λ outcome. tt)

-- ---- the stream that is named

pub many-heads : (split : PlainSplit) (t : TraceText) → t.heads ≡ heads_of split → length (streams_of t) ≡ length split.streams
many-heads split t same = length-streams t 0 t.heads ∙ ap length same ∙ length-map split.streams head_of_stream

left-among : (n : ℕ) (left : Option UnfinishedStream) (u : UnfinishedStream) → IsAmong n left → left ≡ Some u → IsAmong n (Some u)
left-among n left u among is = subst (IsAmong n) is among

pub outcome-names : (split : PlainSplit) (t : TraceText) (outcome : Outcome) → IsOutcome split t outcome → NamesStream (length split.streams) outcome
outcome-names split t (OtherHeader place) is = tt
outcome-names split t (Offends first) is =
    subst (λ (n : ℕ). first.stream < n) (many-heads split t is.0) (slice_get_within (streams_of t) first.stream is.1.0.trace is.1.0.stands)
outcome-names split t (Unfinished left) is =
    subst (λ (n : ℕ). IsAmong n (Some left)) (many-heads split t is.0.heads)
    (left-among (length (streams_of t)) (first_unfinished 0 (streams_of t)) left (first_unfinished-among (length (streams_of t)) 0 (streams_of t) (omega arith)) is.1)
outcome-names split t (Disagrees place) is = tt
outcome-names split t (Carried value users) is = tt

pub outcome-names_read : (split : PlainSplit) (word bytes : List ℕ) (outcome : Outcome) → ReadsOutcome split word bytes (Ok outcome) → NamesStream (length split.streams) outcome
outcome-names_read split word bytes outcome reads = by (trace_of bytes) reads
  where
    by : (read : Result TraceText TraceFault) → ReadsOutcomeOf split word read (Ok outcome) → NamesStream (length split.streams) outcome
    by (Ok t) is = outcome-names split t outcome is
    by (Err fault) refused = absurd (not_read (refusal_of_trace word fault) outcome refused)

-- ---- some reading, some answer

-- each text has an outcome
abbrev pub HasOutcomes : Type 0
HasOutcomes = (split : PlainSplit) → CanDecode split → (bytes : List ℕ) → HasSome TextOutcome (IsTextOutcome split bytes)

outcome-some : HasOutcomes → (split : PlainSplit) → CanDecode split → (word bytes : List ℕ) (read : Result TraceText TraceFault) → trace_of bytes ≡ read → HasSome (Result Outcome (List ℕ)) (ReadsOutcomeOf split word read)
outcome-some outcomes split can word bytes (Ok t) is = λ none. outcomes split can bytes (by none)
  where
    same_trace : (one other : TraceText) → ◌≡◌ {A = Result TraceText TraceFault} (Ok one) (Ok other) → one ≡ other
    same_trace one other e = cc

    not_both : (one : TraceText) (fault : TraceFault) → ◌≡◌ {A = Result TraceText TraceFault} (Ok one) (Err fault) → ⊥
    not_both one fault e = cc

    by : ((read : Result Outcome (List ℕ)) → ReadsOutcomeOf split word (Ok t) read → ⊥) → (outcome : TextOutcome) → IsTextOutcome split bytes outcome → ⊥
    by none (Misspelled fault) refused = not_both t fault (sym is ∙ refused)
    by none (Spelled outcome) has = none (Ok outcome) (subst (λ (read : TraceText). IsOutcome split read outcome) (same_trace has.0 t (sym has.1.0 ∙ is)) has.1.1)
outcome-some outcomes split can word bytes (Err fault) is = λ none.
    let refused = RefusesBy-trace Outcome word fault (λ same. trace_free bytes (is ∙ ap Err same)) in none (Err refused.0) refused.1

TellsOutcome-some : (split : PlainSplit) (word : List ℕ) (outcome : Outcome) → NamesStream (length split.streams) outcome → (a : Answer) × TellsOutcome split word outcome a
TellsOutcome-some split word (OtherHeader place) names = (_, refl)
TellsOutcome-some split word (Offends first) names = (_, refl)
TellsOutcome-some split word (Unfinished left) names = ReportsEnd-some (path_of split left.stream) left.end names.1
TellsOutcome-some split word (Disagrees place) names = (_, refl)
TellsOutcome-some split word (Carried value users) names = (_, refl)

pub outcome-always : HasOutcomes → (trace : List ℕ) (split : PlainSplit) → CanDecode split → AsksAlways (outcome_ask trace split)
outcome-always outcomes trace split can = (
  λ bytes. outcome-some outcomes split can trace bytes (trace_of bytes) refl,
  λ bytes outcome reads none. let a = TellsOutcome-some split trace outcome (outcome-names_read split trace bytes outcome reads) in none a.0 a.1,
)

-- ---- in code

-- a port whose nodes were found to be carried
pub all-decodable : (split : PlainSplit) → carried split ≡ Ok tt → IsPortSplit split → CanDecode split
all-decodable split is port = record { port = port; carried = none-uncarried split tt is }

-- what is found of a text
abbrev pub FoundAs : PlainSplit → (word bytes : List ℕ) → Result Decoding Reply → Type 0
FoundAs split word bytes result = ReadsAs (Seen outcome_in (ReadsOutcome split word bytes)) result

module _ (split : PlainSplit) (word bytes : List ℕ) where
  found-spelled : (outcome : Outcome) → IsTextOutcome split bytes (Spelled outcome) → ReadsOutcome split word bytes (Ok outcome)
  found-spelled outcome has = subst (λ (read : Result TraceText TraceFault). ReadsOutcomeOf split word read (Ok outcome)) (sym has.1.0) has.1.1

  pub found-carried : (decoded : Decoded) → IsReadBack split bytes (Ok decoded) → FoundAs split word bytes (Ok (found.Carried decoded))
  found-carried decoded has = found-spelled (Carried (plain_port decoded.value) decoded.users) has

  found-as : (result : Result Decoding Reply) (one : Decoding) → IsTextOutcome split bytes (Spelled (outcome_in one)) → result ≡ Ok one → FoundAs split word bytes result
  found-as result one has is = subst (FoundAs split word bytes) (sym is) (found-spelled (outcome_in one) has)

  pub found-fault : (fault : DecodeFault) (result : Result Decoding Reply) → IsReadBack split bytes (Err (texts.NoValue fault)) → IsFound fault result → FoundAs split word bytes result
  found-fault (faults.OtherHeader place) result has is = found-as result (found.OtherHeader place) has is
  found-fault (faults.Offence cycle stream rule) result has is = found-as result (found.Offence cycle stream rule) has is
  found-fault (faults.Unfinished stream end) result has is = found-as result (found.Unfinished stream end) has is
  found-fault (faults.Disagree path packet) result has is = found-as result (found.Disagree path packet) has is
  found-fault faults.Memory result has is = subst (FoundAs split word bytes) (sym is) tt

  refused-as : (fault : TraceFault) (refusal : Refusal) (reply : Reply) → refusal_of_trace word fault ≡ Some refusal → trace_of bytes ≡ Err fault → IsRefusedBy (Some refusal) reply → FoundAs split word bytes (Err reply)
  refused-as fault refusal reply some is (inl says) =
      subst (λ (r : Reply). FoundAs split word bytes (Err r)) (sym says)
      (subst (λ (read : Result TraceText TraceFault). ReadsOutcomeOf split word read (Err (refusal_line refusal))) (sym is)
      (subst (λ (o : Option Refusal). RefusesBy {X = Outcome} o (Err (refusal_line refusal))) (sym some) refl))
  refused-as fault refusal reply some is (inr memory) = subst (λ (r : Reply). FoundAs split word bytes (Err r)) (sym memory) tt

  pub found-misspelled : (fault : TraceFault) (reply : Reply) → IsReadBack split bytes (Err (texts.Misspelled fault)) → IsRefusedBy (refusal_of_trace word fault) reply → FoundAs split word bytes (Err reply)
  found-misspelled (reading.BadHeader line) reply has refused = refused-as (reading.BadHeader line) _ reply refl has refused
  found-misspelled reading.TooManyCycles reply has refused = refused-as reading.TooManyCycles _ reply refl has refused
  found-misspelled (reading.BadRow line) reply has refused = refused-as (reading.BadRow line) _ reply refl has refused
  found-misspelled (reading.WrongSignals line) reply has refused = refused-as (reading.WrongSignals line) _ reply refl has refused
  found-misspelled (reading.RowsMissing want got) reply has refused = refused-as (reading.RowsMissing want got) _ reply refl has refused
  found-misspelled (reading.RowsLeft line) reply has refused = refused-as (reading.RowsLeft line) _ reply refl has refused
  found-misspelled reading.Memory reply has refused = subst (λ (r : Reply). FoundAs split word bytes (Err r)) (sym refused) tt

-- at the end of a file
pub decoded-at_end : (file : DecodeFile) (read : Result Decoding Reply) → IsFedSome file → ((bytes : List ℕ) → IsFed file.decoder bytes → FoundAs (split_of file.decoder) file.word.now bytes read)
    → ReadsAs (decodes_after file []) read
decoded-at_end file (Ok one) some reads =
    λ bytes fed. subst (λ (l : List ℕ). ReadsOutcome (split_of file.decoder) file.word.now l (Ok (outcome_in one))) (sym (append-nil bytes)) (reads bytes fed)
decoded-at_end file (Err (replies.Says (answers.Refused line))) some reads =
    λ bytes fed. subst (λ (l : List ℕ). ReadsOutcome (split_of file.decoder) file.word.now l (Err line)) (sym (append-nil bytes)) (reads bytes fed)
decoded-at_end file (Err (replies.Says (answers.Verdict line))) some reads = reads some.0 some.1
decoded-at_end file (Err (replies.Says (answers.Done text))) some reads = reads some.0 some.1
decoded-at_end file (Err (replies.ReadFault line)) some reads = reads some.0 some.1
decoded-at_end file (Err replies.Memory) some reads = tt

-- the readings of a new reader
read-new : (split : PlainSplit) (word : List ℕ) (file : DecodeFile) (bytes : List ℕ) (read : Result Decoding (List ℕ)) → IsNewFor split word file → decodes_after file bytes read
    → Seen outcome_in (ReadsOutcome split word bytes) read
read-new split word file bytes read new reads =
    subst (λ (s : PlainSplit). Seen outcome_in (ReadsOutcome s word bytes) read) new.split_is
    (subst (λ (w : List ℕ). Seen outcome_in (ReadsOutcome (split_of file.decoder) w bytes) read) new.word_is (reads [] new.fed))

pub asked-decoder : (split : PlainSplit) (word : List ℕ) (reader : DecodeFile) (told : Option Files) (file : FileWord) (old new : Option (List ℕ × ℕ)) (rose : Type 0) (read : Result Decoding Reply)
    → IsNewFor split word reader → IsAsked told file (decodes_after reader) old new rose read → IsAsked told file (λ bytes. Seen outcome_in (ReadsOutcome split word bytes)) old new rose read
asked-decoder split word reader told file old new rose (Ok one) is asked = (asked.0, (asked.1.0, (read-new split word reader asked.0 (Ok one) is asked.1.1.0, asked.1.1.1)))
asked-decoder split word reader told file old new rose (Err reply) is (inl s) = inl s
asked-decoder split word reader told file old new rose (Err reply) is (inr d) = inr (d.0, (d.1.0, (d.1.1.0, (read-new split word reader d.0 (Err d.1.1.0) is d.1.1.1.0, d.1.1.1.1))))
