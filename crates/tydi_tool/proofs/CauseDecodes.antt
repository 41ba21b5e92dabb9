-- The steps of a command that decodes a port, in both directions: from an answer to its cause, and from a cause to its answer.
use Rattle.std.proofs.Common.{◌≡◌, ℕ, inl, inr, List, Some, Result, Ok, Err, codes, decimal, refl, sym, ap, ◌∙◌, subst}
use Rattle.tydi_io.specs.Store.{Files}
use Rattle.cycle_trace.specs.Trace.{TraceText, streams_of}
use Rattle.cycle_trace.specs.TraceText.{trace_of}
use Rattle.cycle_trace.specs.declared.fault.TraceFault.{TraceFault}
use Rattle.trace_decode.specs.Outcome.{Carried, Disagrees, IsLegal, IsOutcome, Offends, OtherHeader, Outcome, Unfinished, users_on}
use Rattle.type_split.specs.Streams.{PlainSplit}
use Rattle.value_text.specs.Canonical.{canonical}
use Rattle.tydi_tool.specs.declared.answer.Answer.{Answer}
use Rattle.tydi_tool.specs.declared.answer.Answer.TheVariants as answers
use Rattle.tydi_tool.specs.Ask.{Ask, Ends, SaysBy}
use Rattle.tydi_tool.specs.Causes as rows
use Rattle.tydi_tool.specs.Causes.{DecodedOffence, DecodedUnfinished, DecodeWords, DisagreeCause, HasBytes, HasCarried, HasDecode, HasPortTraceFault, IsDecodeText, IsLegalOf, DecodedOtherHeader, Reaches, decoded_in}
use Rattle.tydi_tool.specs.Commands.{ask_of, carried_ask, outcome_ask}
use Rattle.tydi_tool.specs.Decodes.{ReadsOutcome, ReadsOutcomeOf, TellsOutcome}
use Rattle.tydi_tool.specs.Drives.{path_of}
use Rattle.tydi_tool.specs.Outcome.{output_answer}
use Rattle.tydi_tool.specs.Refusals.{refusal_of_trace}
use Rattle.tydi_tool.specs.Words.{Request, trace_file}
use Rattle.tydi_tool.proofs.AnswerLemmas.{not_read}
use Rattle.tydi_tool.proofs.CauseLines.{by_line, line_of, trace_text, two_words}
use Rattle.tydi_tool.proofs.CauseSteps.{Told, ends_line, reaches-carried, reports_end, says-carried, says-read, says-refused, told-file}

-- a trace of a port without offence
abbrev pub legal_of : {split : PlainSplit} {t : TraceText} → IsLegal split t → IsLegalOf split t
legal_of legal = record { same = legal.heads; legal = legal.first }

abbrev pub of_legal : {split : PlainSplit} {t : TraceText} → IsLegalOf split t → IsLegal split t
of_legal legal = record { heads = legal.same; first = legal.legal }

module _ (known : Files) (words : DecodeWords) where
  -- a command that decodes a port
  abbrev pub decodes : Ask
  decodes = carried_ask words.at.project words.at.port (outcome_ask words.trace)

  -- ---- an answer has a cause

  module _ (request : Request) (a : Answer) (named : decoded_in request ≡ Some words) (split : PlainSplit) (at : HasCarried known words.at split) where
    -- the text of the trace is refused
    refuses_trace : (bytes line : List ℕ) → HasBytes known words.trace 67108864 bytes → ReadsOutcome split words.trace bytes (Err line) → a ≡ answers.Refused line → Told known request a
    refuses_trace bytes line file refused said = by (trace_of bytes) refl refused
      where
        by : (read : Result TraceText TraceFault) → trace_of bytes ≡ read → ReadsOutcomeOf split words.trace read (Err line) → Told known request a
        by (Ok t) is refused = absurd refused
        by (Err fault) is refused = (
          rows.TextFault,
          inl (record {
            line = line;
            faulty = inr (inr (inr (inr (inr (inl (record {
              words = words;
              named = named;
              split = split;
              at = at;
              bytes = bytes;
              file = file;
              fault = fault;
              reads = is;
              told = sym (trace_text words.trace fault) ∙ line_of Outcome (refusal_of_trace words.trace fault) line refused;
            }))))));
            said = said;
          }),
        )

    -- the trace is read, and its outcome says the answer
    tells_outcome : (t : TraceText) (outcome : Outcome) → HasDecode known words split t → ((text : List ℕ) → IsDecodeText known words text → a ≡ output_answer text → Told known request a)
        → IsOutcome split t outcome → TellsOutcome split words.trace outcome a → Told known request a
    tells_outcome t (OtherHeader place) all text is said = (
      rows.OtherHeader,
      inl (record {
        words = words;
        named = named;
        split = split;
        read = t;
        all = all;
        place = place;
        differ = is;
        said = said ∙ ap answers.Refused (two_words (codes "tydi: ") (codes "OtherHeader") (codes " ") words.trace (decimal place) (codes "\n"));
      }),
    )
    tells_outcome t (Offends first) all text is said = (
      rows.AnOffence,
      inr (record { words = words; named = named; split = split; read = t; all = all; same = is.0; first = first; is_first = is.1; said = said }),
    )
    tells_outcome t (Unfinished left) all text is said =
        let line = ends_line (path_of split left.stream) left.end a said in (
          rows.AnUnfinished,
          inr (record {
            words = words;
            named = named;
            split = split;
            read = t;
            all = all;
            legal = legal_of is.0;
            left = left;
            is_left = is.1;
            line = line.0;
            told = line.1.0;
            said = line.1.1;
          }),
        )
    tells_outcome t (Disagrees place) all text is said = (
      rows.ADisagreement,
      record {
        words = words;
        named = named;
        split = split;
        read = t;
        all = all;
        legal = legal_of is.0.legal;
        whole = is.0.ends;
        place = place;
        disagree = is.1;
        said = said;
      },
    )
    tells_outcome t (Carried value users) all text is said =
        text (canonical split value users)
        (record {
          split = split;
          read = t;
          all = all;
          legal = legal_of is.0.legal;
          whole = is.0.ends;
          value = value;
          carries = is.1.0;
          is = ap (canonical split value) is.1.1;
        }) said

    -- a trace that is decoded
    pub told-decoded : ask_of request ≡ decodes → ((text : List ℕ) → IsDecodeText known words text → a ≡ output_answer text → Told known request a)
        → SaysBy (Some known) (outcome_ask words.trace split) a → Told known request a
    told-decoded same text says =
        told-file known (trace_file words.trace) (ReadsOutcome split words.trace) (λ outcome. Ends (TellsOutcome split words.trace outcome)) a request
        (subst (Reaches known (trace_file words.trace)) (sym same) (reaches-carried known words.at (outcome_ask words.trace) (trace_file words.trace) split at (inl refl)))
        refuses_trace
        (λ bytes outcome file reads said. by bytes outcome file (trace_of bytes) refl reads said) says
      where
        by : (bytes : List ℕ) (outcome : Outcome) → HasBytes known words.trace 67108864 bytes → (read : Result TraceText TraceFault) → trace_of bytes ≡ read → ReadsOutcomeOf split words.trace read (Ok outcome)
            → TellsOutcome split words.trace outcome a → Told known request a
        by bytes outcome file (Ok t) is reads said = tells_outcome t outcome (record { at = at; bytes = bytes; file = file; reads = is }) text reads said
        by bytes outcome file (Err fault) is reads said = absurd (not_read (refusal_of_trace words.trace fault) outcome reads)

  -- ---- a cause gives its answer

  -- the trace has this outcome, which says the answer
  pub says-outcome : (a : Answer) (split : PlainSplit) (t : TraceText) (outcome : Outcome) → HasDecode known words split t → IsOutcome split t outcome → TellsOutcome split words.trace outcome a
      → SaysBy (Some known) decodes a
  says-outcome a split t outcome all is tells =
      says-carried known words.at (outcome_ask words.trace) a split all.at
      (says-read known (trace_file words.trace) (ReadsOutcome split words.trace) (λ o. Ends (TellsOutcome split words.trace o)) a all.bytes outcome all.file reads tells)
    where
      reads : ReadsOutcome split words.trace all.bytes (Ok outcome)
      reads = subst (λ (read : Result TraceText TraceFault). ReadsOutcomeOf split words.trace read (Ok outcome)) (sym all.reads) is

  -- the text of the trace is refused
  pub says-port_trace_fault : (request : Request) (line : List ℕ) (a : Answer) (has : HasPortTraceFault known request line) → has.words ≡ words → a ≡ answers.Refused line → SaysBy (Some known) decodes a
  says-port_trace_fault request line a has same said = subst (λ (w : DecodeWords). SaysBy (Some known) (carried_ask w.at.project w.at.port (outcome_ask w.trace)) a) same
      (says-carried known has.words.at (outcome_ask has.words.trace) a has.split has.at
      (says-refused known (trace_file has.words.trace) (ReadsOutcome has.split has.words.trace) (λ o. Ends (TellsOutcome has.split has.words.trace o)) a has.bytes line has.file refused said))
    where
      refused : ReadsOutcome has.split has.words.trace has.bytes (Err line)
      refused = subst (λ (read : Result TraceText TraceFault). ReadsOutcomeOf has.split has.words.trace read (Err line)) (sym has.reads)
          (by_line Outcome (refusal_of_trace has.words.trace has.fault) line (trace_text has.words.trace has.fault ∙ has.told))

-- each outcome that is a cause
pub says-other_header : (known : Files) (request : Request) (a : Answer) (cause : DecodedOtherHeader known request a) → SaysBy (Some known) (decodes known cause.words) a
says-other_header known request a cause =
    says-outcome known cause.words a cause.split cause.read (OtherHeader cause.place) cause.all cause.differ
    (cause.said ∙ ap answers.Refused (sym (two_words (codes "tydi: ") (codes "OtherHeader") (codes " ") cause.words.trace (decimal cause.place) (codes "\n"))))

pub says-decoded_offence : (known : Files) (request : Request) (a : Answer) (cause : DecodedOffence known request a) → SaysBy (Some known) (decodes known cause.words) a
says-decoded_offence known request a cause = says-outcome known cause.words a cause.split cause.read (Offends cause.first) cause.all (cause.same, cause.is_first) cause.said

pub says-decoded_unfinished : (known : Files) (request : Request) (a : Answer) (cause : DecodedUnfinished known request a) → SaysBy (Some known) (decodes known cause.words) a
says-decoded_unfinished known request a cause =
    says-outcome known cause.words a cause.split cause.read (Unfinished cause.left) cause.all (of_legal cause.legal, cause.is_left)
    (reports_end (path_of cause.split cause.left.stream) cause.left.end cause.line a cause.told cause.said)

pub says-disagreement : (known : Files) (request : Request) (a : Answer) (cause : DisagreeCause known request a) → SaysBy (Some known) (decodes known cause.words) a
says-disagreement known request a cause =
    says-outcome known cause.words a cause.split cause.read (Disagrees cause.place) cause.all (record { legal = of_legal cause.legal; ends = cause.whole }, cause.disagree) cause.said

pub says-value_text : (known : Files) (words : DecodeWords) (text : List ℕ) (a : Answer) (is : IsDecodeText known words text) → a ≡ output_answer text → SaysBy (Some known) (decodes known words) a
says-value_text known words text a is said =
    says-outcome known words a is.split is.read (Carried is.value (users_on (streams_of is.read))) is.all (record { legal = of_legal is.legal; ends = is.whole }, (is.carries, refl)) (said ∙ ap output_answer is.is)
