-- The values that `decode` writes, and those of the traces that `drive` writes.
use Rattle.std.proofs.Common.{◌≡◌, ◌∙◌, ℕ, suc, ◌≤◌, Bool, true, List, [], ◌∷◌, length, Some, refl, sym, ap, subst, arith}
use Rattle.tydi_io.specs.Store.{Files}
use Rattle.physical_stream.specs.Cycles.{StreamTrace, items_done}
use Rattle.physical_stream.specs.Ending.{ending_of}
use Rattle.physical_stream.specs.Params.{Parameters}
use Rattle.physical_stream.specs.declared.end.End.{End}
use Rattle.physical_stream.specs.declared.item.Item.{Item}
use Rattle.complexity_rules.specs.Levels.{AreRaised, IsRaised}
use Rattle.complexity_rules.proofs.LevelLemmas.{ending_stays}
use Rattle.cycle_trace.specs.Survey.{first_unfinished, or_unfinished}
use Rattle.cycle_trace.specs.Trace.{TraceText, streams_of}
use Rattle.logical_value.specs.Fits.{fits_split}
use Rattle.logical_value.specs.Tree.{Tree, plain_port}
use Rattle.plan_text.specs.declared.plan.Plan.{Plan}
use Rattle.port_drive.specs.Laws.{done_on, trace_of}
use Rattle.port_drive.specs.Text.{IsDrivenText}
use Rattle.trace_decode.specs.Outcome.{users_on}
use Rattle.trace_decode.specs.Standing.{CanDecode}
use Rattle.trace_decode.proofs.DrivenLemmas.{is_carried, offences_fall_with_tags, users_on-stay}
use Rattle.trace_decode.proofs.LawLemmas.{items_carry_one}
use Rattle.type_split.specs.Streams.{IsPortSplit, PlainSplit}
use Rattle.value_text.specs.Canonical.{canonical}
use Rattle.value_text.specs.Printable.{IsNamedSplit, IsSmall}
use Rattle.value_text.specs.Reading.{IsValue}
use Rattle.value_text.proofs.printed.NamedSplits.{splits_named}
use Rattle.value_text.proofs.printed.ReadAgain.{values_read}
use Rattle.value_views.specs.Views.{Carries}
use Rattle.tydi_tool.specs.declared.answer.Answer.TheVariants as answers
use Rattle.tydi_tool.specs.Causes as rows
use Rattle.tydi_tool.specs.Causes.{DecodeWords, DriveWords, HasBytes, HasCarried, HasSplit, IsDecodeText, PortWords}
use Rattle.tydi_tool.specs.Commands.{Says}
use Rattle.tydi_tool.specs.DecodeLaw.{CarriedValuesAreWritten, CarriesAlone, DrivenValuesAreReadBack, IsReadBack, LevelsKeepValues, ReadsAgain, WritesDecoded, WrittenValuesAreCarried, decode_words, decoded_text}
use Rattle.tydi_tool.specs.DriveLaw.{WritesDriven, drive_words}
use Rattle.tydi_tool.specs.Outcome.{output_answer}
use Rattle.tydi_tool.specs.Words.{Decode}
use Rattle.tydi_tool.proofs.CauseDecodes.{legal_of}
use Rattle.tydi_tool.proofs.CauseLemmas.{exactly, says_text}
use Rattle.tydi_tool.proofs.CommandLemmas.{SaysBy-request}
use Rattle.tydi_tool.proofs.DriveLawLemmas.{written-driven}
use Rattle.tydi_tool.proofs.FormLemmas.{IsPortFormed, form-names, port-formed}

-- ---- the port

-- the port of a split is one of a project that its text spells
pub formed-at : (known : Files) (words : PortWords) (split : PlainSplit) (has : HasSplit known words split) → IsPortFormed has.ltype
formed-at known words split has =
    subst IsPortFormed (sym has.port.type_is) (port-formed words.project has.port.bytes has.port.read words.port has.port.found has.port.reads has.port.named)

pub port-of : (known : Files) (words : PortWords) (split : PlainSplit) (has : HasSplit known words split) → IsPortSplit split
port-of known words split has =
    let formed = formed-at known words split has in
    record { ltype = has.ltype; port = formed.port; valid = formed.valid.valid; few = formed.valid.few; apart = has.apart; is = has.is }

can-decode : (known : Files) (words : PortWords) (split : PlainSplit) → HasCarried known words split → CanDecode split
can-decode known words split has = record { port = port-of known words split has.split_is; carried = has.carried }

named-at : (known : Files) (words : PortWords) (split : PlainSplit) → HasSplit known words split → IsNamedSplit split
unfolding port-of
named-at known words split has = splits_named split (port-of known words split has) (form-names has.ltype (formed-at known words split has).form)

-- ---- the text of a value

-- the text of a value that fits is read as this value
reads-again : (known : Files) (words : PortWords) (split : PlainSplit) → HasSplit known words split → (value : List (List Tree)) (users : List (List (List Bool))) → fits_split split value ≡ true
    → ReadsAgain split value (canonical split value users)
reads-again known words split has value users fits = λ read same small.
    subst (λ (v : List (List Tree)). IsValue split (canonical split v users) read) same
    (values_read split read users (named-at known words split has) (ap (fits_split split) same ∙ fits) (subst IsSmall (sym same) small))

-- a value that is carried is carried alone
alone : (split : PlainSplit) → CanDecode split → (value : List (List Tree)) (t : TraceText) → Carries split value (done_on (streams_of t))
    → (other : List (List Tree)) → Carries split other (done_on (streams_of t)) → other ≡ value
alone split can value t carries = λ other carried. items_carry_one split can (done_on (streams_of t)) other value carried carries

-- ---- the values that are written

writes-decoded : (known : Files) (words : DecodeWords) (text : List ℕ) → IsDecodeText known words text → WritesDecoded known words text
writes-decoded known words text is = record {
  split = is.split;
  read = is.read;
  all = is.all;
  value = is.value;
  carried = record {
    legal = is.legal;
    whole = is.whole;
    carries = is.carries;
    alone = alone is.split (can-decode known words.at is.split is.all.at) is.value is.read is.carries;
  };
  is = is.is;
  again = subst (ReadsAgain is.split is.value) (sym is.is) (reads-again known words.at is.split is.all.at.split_is is.value (users_on (streams_of is.read)) is.carries.fits);
}

same_text : (one other : List ℕ) → answers.Done one ≡ answers.Done other → one ≡ other
same_text one other e = cc

pub written-carried : WrittenValuesAreCarried
written-carried known project port trace text says =
    let cause = (exactly rows.AText known (Decode project port trace) (answers.Done text)).0 (says, refl) in
    let same : text ≡ cause.text = same_text text cause.text cause.said in (
      subst (λ (l : List ℕ). length l ≤ 67108864) (sym same) cause.within,
      subst (WritesDecoded known (decode_words project port trace)) (sym same) (writes-decoded known (decode_words project port trace) cause.text cause.is),
    )

pub carried-written : CarriedValuesAreWritten
carried-written known project port trace split read value all carried a = (only, says)
  where
    is : IsDecodeText known (decode_words project port trace) (decoded_text split value read)
    is = record { split = split; read = read; all = all; legal = carried.legal; whole = carried.whole; value = value; carries = carried.carries; is = refl }

    says : a ≡ output_answer (decoded_text split value read) → Says (Some known) (Some (Decode project port trace)) a
    says said = says_text known (Decode project port trace) (decoded_text split value read) a is said

    only : Says (Some known) (Some (Decode project port trace)) a → a ≡ output_answer (decoded_text split value read)
    only said =
        SaysBy-request known (Decode project port trace) a (output_answer (decoded_text split value read)) said
        (says_text known (Decode project port trace) (decoded_text split value read) (output_answer (decoded_text split value read)) is refl)

-- ---- the values of traces that are driven

-- the trace that was driven carries the value alone
driven-alone : (split : PlainSplit) → CanDecode split → (value : List (List Tree)) (plan : Plan) (text : List ℕ) (driven : IsDrivenText split value plan text) → CarriesAlone split value (trace_of split plan.cycles driven.runs)
driven-alone split can value plan text driven =
    let outcome = is_carried split can value plan driven.runs driven.driven in
    record {
      legal = legal_of outcome.0.legal;
      whole = outcome.0.ends;
      carries = outcome.1.0;
      alone = alone split can value (trace_of split plan.cycles driven.runs) outcome.1.0;
    }

-- a file has the same bytes in another store that has the same by this word
pub same-bytes : (known after : Files) (word : List ℕ) (limit : ℕ) (bytes : List ℕ) → after word ≡ known word → HasBytes known word limit bytes → HasBytes after word limit bytes
same-bytes known after word limit bytes same has = record { there = same ∙ has.there; within = has.within }

-- so a port is there in another store that has the same project
pub same-carried : (known after : Files) (words : PortWords) (split : PlainSplit) → after words.project ≡ known words.project → HasCarried known words split → HasCarried after words split
same-carried known after words split same has = record {
  split_is = record {
    ltype = has.split_is.ltype;
    port = record {
      bytes = has.split_is.port.bytes;
      file = same-bytes known after words.project 4194304 has.split_is.port.bytes same has.split_is.port.file;
      read = has.split_is.port.read;
      reads = has.split_is.port.reads;
      found = has.split_is.port.found;
      named = has.split_is.port.named;
      type_is = has.split_is.port.type_is;
    };
    apart = has.split_is.apart;
    is = has.split_is.is;
  };
  carried = has.carried;
}

read-back : (known : Files) (words : DriveWords) (text : List ℕ) → length text ≤ 67108864 → WritesDriven known words text → IsReadBack known words text
read-back known words text within writes =
    let split = writes.split in
    let value = writes.value in
    let t = trace_of split writes.plan.cycles writes.trace.runs in
    let carried : CarriesAlone split (plain_port value) t = driven-alone split (can-decode known words.at split writes.read.at) (plain_port value) writes.plan text writes.trace in
    record {
      split = split;
      value = value;
      plan = writes.plan;
      read = writes.read;
      t = t;
      spelled = writes.trace.read;
      carried = carried;
      decoded = λ after trace same there.
          carried-written after words.at.project words.at.port trace split t (plain_port value)
          (record { at = same-carried known after words.at split same writes.read.at; bytes = text; file = record { there = there; within = within }; reads = writes.trace.read }) carried;
      again = reads-again known words.at split writes.read.at.split_is (plain_port value) (users_on (streams_of t)) carried.carries.fits value refl;
    }

pub driven-read_back : DrivenValuesAreReadBack
driven-read_back known project port value plan text says =
    let both = written-driven known project port value plan text says in read-back known (drive_words project port value plan) text both.0 both.1

-- ---- levels

raised-more : (low high : StreamTrace) (lows highs : List StreamTrace) → AreRaised (low ∷ lows) (high ∷ highs) → AreRaised lows highs
raised-more low high lows highs raised = record { many = omega (arith, raised.many); each = λ i one other here there. raised.each (suc i) one other here there }

done-stays : (low high : StreamTrace) → IsRaised low high → items_done high.params high.cycles ≡ items_done low.params low.cycles
done-stays low high raised = ap (items_done high.params) raised.cycles ∙ ap (λ (p : Parameters). items_done p low.cycles) raised.params

-- what is done and how streams end do not depend on levels
done-on-stays : (lows highs : List StreamTrace) → AreRaised lows highs → done_on highs ≡ done_on lows
done-on-stays [] [] raised = refl
done-on-stays [] (high ∷ highs) raised = absurd (omega (arith, raised.many))
done-on-stays (low ∷ lows) [] raised = absurd (omega (arith, raised.many))
done-on-stays (low ∷ lows) (high ∷ highs) raised =
    ap (λ (l : List Item). l ∷ done_on highs) (done-stays low high (raised.each 0 low high refl refl))
    ∙ ap (λ (l : List (List Item)). items_done low.params low.cycles ∷ l) (done-on-stays lows highs (raised-more low high lows highs raised))

unfinished-stays : (number : ℕ) (lows highs : List StreamTrace) → AreRaised lows highs → first_unfinished number highs ≡ first_unfinished number lows
unfinished-stays number [] [] raised = refl
unfinished-stays number [] (high ∷ highs) raised = absurd (omega (arith, raised.many))
unfinished-stays number (low ∷ lows) [] raised = absurd (omega (arith, raised.many))
unfinished-stays number (low ∷ lows) (high ∷ highs) raised =
    ap (λ (end : End). or_unfinished number end (first_unfinished (suc number) highs)) (ending_stays low high (raised.each 0 low high refl refl))
    ∙ ap (or_unfinished number (ending_of low.params low.cycles)) (unfinished-stays (suc number) lows highs (raised-more low high lows highs raised))

pub levels-keep : LevelsKeepValues
levels-keep split value low high raised legal whole carries = record {
  legal = λ o offends. legal o (offences_fall_with_tags split (streams_of low) (streams_of high) o raised offends);
  whole = unfinished-stays 0 (streams_of low) (streams_of high) raised ∙ whole;
  carries = subst (Carries split value) (sym (done-on-stays (streams_of low) (streams_of high) raised)) carries;
  users = users_on-stay (streams_of low) (streams_of high) raised;
}
