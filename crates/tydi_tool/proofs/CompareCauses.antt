-- The steps of a command that compares a trace with a value, in both directions: from an answer to its cause, and from a cause to its answer.
use Rattle.std.proofs.Common.{◌≡◌, ℕ, inl, inr, List, [], ◌∷◌, Some, Result, Ok, Err, codes, decimal, refl, sym, ap, ◌∙◌, subst}
use Rattle.tydi_io.specs.Store.{Files}
use Rattle.cycle_trace.specs.Trace.{TraceText}
use Rattle.cycle_trace.specs.TraceText.{trace_of}
use Rattle.cycle_trace.specs.declared.fault.TraceFault.{TraceFault}
use Rattle.logical_value.specs.declared.value.PortValue.{PortValue}
use Rattle.trace_compare.specs.Texts.{Comparison, Compared, IsComparisonOf, Misspelled, OtherHeader}
use Rattle.trace_compare.specs.declared.difference.Difference.{Difference}
use Rattle.type_split.specs.Streams.{PlainSplit}
use Rattle.tydi_tool.specs.declared.answer.Answer.{Answer}
use Rattle.tydi_tool.specs.declared.answer.Answer.TheVariants as answers
use Rattle.tydi_tool.specs.Ask.{Ask, Ends, SaysBy}
use Rattle.tydi_tool.specs.Causes as rows
use Rattle.tydi_tool.specs.Causes.{CompareWords, ComparedOtherHeader, DifferenceCause, HasBytes, HasCarried, HasCompare, HasComparedFault, HasValue, IsSameText, Reaches, ValueWords, compared_in, valued_in}
use Rattle.tydi_tool.specs.Commands.{ask_of, carried_ask, compared_ask, valued_ask}
use Rattle.tydi_tool.specs.Comparisons.{ReadsAgainst, ReadsComparison, TellsComparison, TellsDifferences, items_of_value}
use Rattle.tydi_tool.specs.Outcome.{output_answer}
use Rattle.tydi_tool.specs.Refusals.{refusal_of_trace}
use Rattle.tydi_tool.specs.Words.{FileWord, Request, trace_file}
use Rattle.tydi_tool.proofs.AnswerLemmas.{not_read}
use Rattle.tydi_tool.proofs.CauseLines.{by_line, line_of, trace_text, two_words}
use Rattle.tydi_tool.proofs.CauseSteps.{Told, reaches-valued, says-read, says-refused, says-valued, told-file, told-valued}

-- the words of a port whose trace is compared
abbrev pub of_compare : (project port value trace : List ℕ) → CompareWords
of_compare project port value trace = record { at = record { project = project; port = port }; value = value; trace = trace }

-- those of the port and the value alone
abbrev pub value_words : CompareWords → ValueWords
value_words words = record { at = words.at; value = words.value }

module _ (known : Files) (words : CompareWords) where
  -- how a command goes on with a value
  abbrev pub beside : PlainSplit → PortValue → Ask
  beside split value = compared_ask words.trace split value

  -- a command that compares a trace with a value
  abbrev pub compares : Ask
  compares = carried_ask words.at.project words.at.port (λ split. valued_ask words.value split (compared_ask words.trace split))

  -- ---- an answer has a cause

  module _ (request : Request) (a : Answer) (named : compared_in request ≡ Some words) (split : PlainSplit) (at : HasCarried known words.at split) (value : PortValue) (has : HasValue known split words.value value) where
    -- the text of the trace is refused
    refuses_trace : (bytes line : List ℕ) → HasBytes known words.trace 67108864 bytes → ReadsComparison split (items_of_value split value) words.trace bytes (Err line) → a ≡ answers.Refused line → Told known request a
    refuses_trace bytes line file refused said = by (trace_of bytes) refl refused
      where
        by : (read : Result TraceText TraceFault) → trace_of bytes ≡ read → ReadsAgainst split (items_of_value split value) words.trace read (Err line) → Told known request a
        by (Ok t) is refused = absurd refused
        by (Err fault) is refused = (
          rows.TextFault,
          inl (record {
            line = line;
            faulty = inr (inr (inr (inr (inr (inr (inr (inr (inr (inr (inl (record {
              words = words;
              named = named;
              split = split;
              at = at;
              value = value;
              value_is = has;
              bytes = bytes;
              file = file;
              fault = fault;
              reads = is;
              told = sym (trace_text words.trace fault) ∙ line_of Comparison (refusal_of_trace words.trace fault) line refused;
            })))))))))));
            said = said;
          }),
        )

    -- the differences say the answer
    tells_differences : (t : TraceText) (differences : List Difference) → HasCompare known words split value t → ((text : List ℕ) → IsSameText known words text → a ≡ output_answer text → Told known request a)
        → IsComparisonOf split (items_of_value split value) t (Compared differences) → TellsDifferences split differences a → Told known request a
    tells_differences t [] all text is said =
        text (codes "same\n") (record { split = split; value = value; t = t; all = all; same = is.0; none = is.1; is = refl }) said
    tells_differences t (first ∷ more) all text is said = (
      rows.ADifference,
      record {
        words = words;
        named = named;
        split = split;
        value = value;
        read = t;
        all = all;
        same = is.0;
        first = first;
        more = more;
        are = is.1;
        said = said;
      },
    )

    -- the trace is read, and its comparison says the answer
    tells_comparison : (t : TraceText) (found : Comparison) → HasCompare known words split value t → ((text : List ℕ) → IsSameText known words text → a ≡ output_answer text → Told known request a)
        → IsComparisonOf split (items_of_value split value) t found → TellsComparison split words.trace found a → Told known request a
    tells_comparison t (Misspelled fault) all text is said = absurd is
    tells_comparison t (OtherHeader place) all text is said = (
      rows.OtherHeader,
      inr (inr (inl (record {
        words = words;
        named = named;
        split = split;
        value = value;
        read = t;
        all = all;
        place = place;
        differ = is;
        said = said ∙ ap answers.Refused (two_words (codes "tydi: ") (codes "OtherHeader") (codes " ") words.trace (decimal place) (codes "\n"));
      }))),
    )
    tells_comparison t (Compared differences) all text is said = tells_differences t differences all text is said

    -- a trace that is compared
    told-against : ((other : FileWord) → Reaches known other compares → Reaches known other (ask_of request)) → ((text : List ℕ) → IsSameText known words text → a ≡ output_answer text → Told known request a)
        → SaysBy (Some known) (compared_ask words.trace split value) a → Told known request a
    told-against reached text says =
        told-file known (trace_file words.trace) (ReadsComparison split (items_of_value split value) words.trace) (λ found. Ends (TellsComparison split words.trace found)) a request
        (reached (trace_file words.trace) (reaches-valued known (value_words words) beside (trace_file words.trace) split at value has (inl refl)))
        refuses_trace
        (λ bytes found file reads said. by bytes found file (trace_of bytes) refl reads said) says
      where
        by : (bytes : List ℕ) (found : Comparison) → HasBytes known words.trace 67108864 bytes → (read : Result TraceText TraceFault) → trace_of bytes ≡ read
            → ReadsAgainst split (items_of_value split value) words.trace read (Ok found) → TellsComparison split words.trace found a → Told known request a
        by bytes found file (Ok t) is reads said = tells_comparison t found (record { at = at; value_is = has; bytes = bytes; file = file; reads = is }) text reads said
        by bytes found file (Err fault) is reads said = absurd (not_read (refusal_of_trace words.trace fault) found reads)

  pub told-compared : (request : Request) (a : Answer) → compared_in request ≡ Some words → valued_in request ≡ Some (value_words words) → (split : PlainSplit) → HasCarried known words.at split
      → ask_of request ≡ compares → ((text : List ℕ) → IsSameText known words text → a ≡ output_answer text → Told known request a)
      → SaysBy (Some known) (valued_ask words.value split (compared_ask words.trace split)) a → Told known request a
  told-compared request a named valued split at same text says =
      told-valued known (value_words words) beside request a valued split at reached (λ value has said. told-against request a named split at value has reached text said) says
    where
      reached : (other : FileWord) → Reaches known other compares → Reaches known other (ask_of request)
      reached other reaches = subst (Reaches known other) (sym same) reaches

  -- ---- a cause gives its answer

  -- the comparison says the answer
  pub says-compared : (a : Answer) (split : PlainSplit) (value : PortValue) (t : TraceText) (found : Comparison) → HasCompare known words split value t → IsComparisonOf split (items_of_value split value) t found
      → TellsComparison split words.trace found a → SaysBy (Some known) compares a
  says-compared a split value t found all is tells =
      says-valued known (value_words words) beside a split all.at value all.value_is
      (says-read known (trace_file words.trace) (ReadsComparison split (items_of_value split value) words.trace) (λ one. Ends (TellsComparison split words.trace one)) a all.bytes found all.file reads tells)
    where
      reads : ReadsComparison split (items_of_value split value) words.trace all.bytes (Ok found)
      reads = subst (λ (read : Result TraceText TraceFault). ReadsAgainst split (items_of_value split value) words.trace read (Ok found)) (sym all.reads) is

-- the text of the trace is refused
pub says-compared_fault : (known : Files) (request : Request) (line : List ℕ) (a : Answer) (has : HasComparedFault known request line) → a ≡ answers.Refused line → SaysBy (Some known) (compares known has.words) a
says-compared_fault known request line a has said =
    says-valued known (value_words has.words) (beside known has.words) a has.split has.at has.value has.value_is
    (says-refused known (trace_file has.words.trace) (ReadsComparison has.split (items_of_value has.split has.value) has.words.trace) (λ one. Ends (TellsComparison has.split has.words.trace one)) a has.bytes line has.file refused said)
  where
    refused : ReadsComparison has.split (items_of_value has.split has.value) has.words.trace has.bytes (Err line)
    refused = subst (λ (read : Result TraceText TraceFault). ReadsAgainst has.split (items_of_value has.split has.value) has.words.trace read (Err line)) (sym has.reads)
        (by_line Comparison (refusal_of_trace has.words.trace has.fault) line (trace_text has.words.trace has.fault ∙ has.told))

pub says-compared_header : (known : Files) (request : Request) (a : Answer) (cause : ComparedOtherHeader known request a) → SaysBy (Some known) (compares known cause.words) a
says-compared_header known request a cause =
    says-compared known cause.words a cause.split cause.value cause.read (OtherHeader cause.place) cause.all cause.differ
    (cause.said ∙ ap answers.Refused (sym (two_words (codes "tydi: ") (codes "OtherHeader") (codes " ") cause.words.trace (decimal cause.place) (codes "\n"))))

pub says-difference : (known : Files) (request : Request) (a : Answer) (cause : DifferenceCause known request a) → SaysBy (Some known) (compares known cause.words) a
says-difference known request a cause =
    says-compared known cause.words a cause.split cause.value cause.read (Compared (cause.first ∷ cause.more)) cause.all (cause.same, cause.are) cause.said

pub says-same_text : (known : Files) (words : CompareWords) (text : List ℕ) (a : Answer) (is : IsSameText known words text) → a ≡ output_answer text → SaysBy (Some known) (compares known words) a
says-same_text known words text a is said =
    says-compared known words a is.split is.value is.t (Compared []) is.all (is.same, is.none) (said ∙ ap output_answer is.is)
