-- The text of a trace is read as its comparison with a value in one way, and each comparison is one answer.
use Rattle.std.proofs.Common.{◌≡◌, ◌∙◌, ℕ, suc, ◌+◌, ◌<◌, inl, inr, true, List, [], ◌∷◌, ◌++◌, length, drop, Option, Some, None, Result, Ok, Err, refl, sym, ap, subst, slice_get, add-one, append_assoc}
use Rattle.std.specs.List.{All, flat_map}
use Rattle.std.specs.Option.{option_to_list}
use Rattle.std.proofs.lemmas.List.{append-nil}
use Rattle.std.proofs.lemmas.List.Elements.{All-cons, All-nil}
use Rattle.std.proofs.lemmas.Option.{slice_get_within}
use Rattle.tydi_base.proofs.PlaceLemmas.{slice_get-there}
use Rattle.physical_stream.specs.Cycles.{StreamTrace}
use Rattle.physical_stream.specs.declared.item.Item.{Item}
use Rattle.cycle_trace.specs.Trace.{TraceText, streams_of}
use Rattle.cycle_trace.specs.TraceText.{trace_of}
use Rattle.cycle_trace.specs.declared.fault.TraceFault.{TraceFault}
use Rattle.cycle_trace.specs.declared.fault.TraceFault.TheVariants as reading
use Rattle.cycle_trace.proofs.TraceFaults.{trace_free}
use Rattle.logical_value.specs.Tree.{Tree, plain_port}
use Rattle.logical_value.specs.declared.value.PortValue.{PortValue}
use Rattle.handshake.proofs.CursorLemmas.{drop-is}
use Rattle.nest_shape.specs.Flat.{flat_all}
use Rattle.nest_shape.specs.Tree as nests
use Rattle.logical_value.specs.Fits.{fits_split}
use Rattle.port_drive.specs.Drives.{items_on}
use Rattle.port_drive.proofs.StartLemmas.{items-seen}
use Rattle.value_views.specs.Views.{view_of_stream}
use Rattle.trace_compare.specs.Differences.{AreDifferences}
use Rattle.trace_compare.specs.Laws.{OneComparison, SomeComparison}
use Rattle.trace_compare.specs.Standing.{OneForEach}
use Rattle.trace_compare.specs.Texts.{Comparison, Compared, IsComparedText, IsComparison, IsComparisonOf, IsFed, Misspelled, OtherHeader, split_of, wants_of}
use Rattle.trace_compare.specs.declared.difference.Difference.{Difference}
use Rattle.trace_compare.specs.declared.fault.CompareFault.TheVariants as faults
use Rattle.type_split.specs.Streams.{IsPortSplit, PlainSplit}
use Rattle.type_split.specs.declared.split.Phys.{Phys}
use Rattle.tydi_io.specs.Store.{Files}
use Rattle.tydi_tool.specs.declared.answer.Answer.{Answer}
use Rattle.tydi_tool.specs.declared.answer.Answer.TheVariants as answers
use Rattle.tydi_tool.specs.declared.answer.Reply.{Reply}
use Rattle.tydi_tool.specs.declared.answer.Reply.TheVariants as replies
use Rattle.tydi_tool.specs.declared.compare_file.CompareFile.{CompareFile}
use Rattle.tydi_tool.specs.declared.compare_file.Comparing.{Comparing}
use Rattle.tydi_tool.specs.declared.compare_file.Comparing.TheVariants as findings
use Rattle.tydi_tool.specs.Ask.{IsAsked}
use Rattle.tydi_tool.specs.Commands.{against_ask, compared_ask, valued_ask}
use Rattle.tydi_tool.specs.Comparisons.{IsFedSome, IsNewBeside, NameStreams, NamesStreams, ReadsAgainst, ReadsComparison, TellsComparison, TellsDifferences, compares_after, comparison_in, items_from, items_of_value}
use Rattle.tydi_tool.specs.Laws.{AsksAlways, AsksOnce, HasSome, ReadsOnce}
use Rattle.tydi_tool.specs.Reading.{IsRefusedBy, ReadsAs, RefusesBy, Seen}
use Rattle.tydi_tool.specs.Refusals.{Refusal, refusal_line, refusal_of_trace}
use Rattle.tydi_tool.specs.Words.{FileWord}
use Rattle.tydi_tool.proofs.AnswerLemmas.{RefusesBy-line, not_read}
use Rattle.tydi_tool.proofs.DecodeLemmas.{many-heads}
use Rattle.tydi_tool.proofs.SomeLemmas.{RefusesBy-trace}
use Rattle.tydi_tool.proofs.TextLemmas.{ReadsValue-once, ReadsValue-some}

-- ---- the items of a value

-- there is a list of items for each stream
pub many-items : (split : PlainSplit) (roots : List (List Tree)) (number : ℕ) (streams : List Phys) → length (items_from split roots number streams) ≡ length streams
many-items split roots number [] = refl
many-items split roots number (stream ∷ streams) = ap suc (many-items split roots (suc number) streams)

-- with those of one stream more
pub more-items : (split : PlainSplit) (value : PortValue) (number : ℕ) (wants next : List (List Item)) (all : List Item) → IsPortSplit split → fits_split split (plain_port value) ≡ true → number < length split.streams
    → ((phys : Phys) (view : List nests.Tree) → slice_get split.streams number ≡ Some phys → view_of_stream split (plain_port value) number ≡ Some view → all ≡ flat_all phys.params.dims (nests.trees_of view))
    → next ≡ wants ++ all ∷ []
    → wants ++ items_from split (plain_port value) number (drop number split.streams) ≡ items_of_value split value
    → next ++ items_from split (plain_port value) (number + 1) (drop (number + 1) split.streams) ≡ items_of_value split value
more-items split value number wants next all port fits within are added so_far =
    let roots = plain_port value in
    let here = slice_get-there split.streams number within in
    let is : all ≡ items_on split roots number here.0 = items-seen split roots number here.0 all port fits here.1 are in
    let rest = items_from split roots (number + 1) (drop (number + 1) split.streams) in
    ap (λ (l : List (List Item)). l ++ rest) added ∙ append_assoc wants (all ∷ []) rest
    ∙ ap (λ (one : List Item). wants ++ one ∷ rest) is
    ∙ ap (λ (n : ℕ). wants ++ items_on split roots number here.0 ∷ items_from split roots n (drop (number + 1) split.streams)) (add-one number)
    ∙ ap (λ (streams : List Phys). wants ++ items_from split roots number streams) (sym (drop-is split.streams number here.0 here.1)) ∙ so_far

-- ---- one reading, one answer

module _ (one_comparison : OneComparison) (split : PlainSplit) (wants : List (List Item)) (lists : OneForEach split wants) (word : List ℕ) where
  -- what is said of the trace that a text spells is said of the text
  of_text : (bytes : List ℕ) (t : TraceText) (said : Comparison) → trace_of bytes ≡ Ok t → IsComparisonOf split wants t said → IsComparison split wants bytes said
  of_text bytes t (Misspelled fault) is says = absurd says
  of_text bytes t (OtherHeader place) is says = (t, (is, says))
  of_text bytes t (Compared differences) is says = (t, (is, says))

  compared-same : (bytes : List ℕ) (read : Result TraceText TraceFault) (x y : Comparison) → trace_of bytes ≡ read → ReadsAgainst split wants word read (Ok x) → ReadsAgainst split wants word read (Ok y) → x ≡ y
  compared-same bytes (Ok t) x y is p q = one_comparison split wants lists bytes x y (of_text bytes t x is p) (of_text bytes t y is q)
  compared-same bytes (Err fault) x y is p q = absurd (not_read (refusal_of_trace word fault) x p)

  compared-apart : (read : Result TraceText TraceFault) (x : Comparison) (line : List ℕ) → ReadsAgainst split wants word read (Ok x) → ReadsAgainst split wants word read (Err line) → ⊥
  compared-apart (Ok t) x line p q = q
  compared-apart (Err fault) x line p q = not_read (refusal_of_trace word fault) x p

  compared-lines : (read : Result TraceText TraceFault) (one other : List ℕ) → ReadsAgainst split wants word read (Err one) → ReadsAgainst split wants word read (Err other) → one ≡ other
  compared-lines (Ok t) one other p q = absurd p
  compared-lines (Err fault) one other p q = RefusesBy-line Comparison (refusal_of_trace word fault) one other p q

  ReadsComparison-once : ReadsOnce (ReadsComparison split wants word)
  ReadsComparison-once = record {
    same = λ bytes x y p q. compared-same bytes (trace_of bytes) x y refl p q;
    apart = λ bytes x line p q. compared-apart (trace_of bytes) x line p q;
    lines = λ bytes one other p q. compared-lines (trace_of bytes) one other p q;
  }

differences-one : (split : PlainSplit) (differences : List Difference) (a b : Answer) → TellsDifferences split differences a → TellsDifferences split differences b → a ≡ b
differences-one split [] a b p q = p ∙ sym q
differences-one split (first ∷ more) a b p q = p ∙ sym q

comparison-one : (split : PlainSplit) (word : List ℕ) (found : Comparison) (a b : Answer) → TellsComparison split word found a → TellsComparison split word found b → a ≡ b
comparison-one split word (Misspelled fault) a b p q = absurd p
comparison-one split word (OtherHeader place) a b p q = p ∙ sym q
comparison-one split word (Compared differences) a b p q = differences-one split differences a b p q

against-once : OneComparison → (trace : List ℕ) (split : PlainSplit) (wants : List (List Item)) → OneForEach split wants → AsksOnce (against_ask trace split wants)
against-once one_comparison trace split wants lists = (ReadsComparison-once one_comparison split wants lists trace, λ bytes found reads a b p q. comparison-one split trace found a b p q)

pub compared-once : OneComparison → (value trace : List ℕ) (split : PlainSplit) → AsksOnce (valued_ask value split (compared_ask trace split))
compared-once one_comparison value trace split =
    (ReadsValue-once value split, λ bytes read reads. against-once one_comparison trace split (items_of_value split read) (many-items split (plain_port read) 0 split.streams))

-- ---- the streams that are named

-- where each number of a list names itself, so does each difference that stands in it
named-so : (n : ℕ) (firsts : List (Option Difference)) → ((i : ℕ) (d : Difference) → slice_get firsts i ≡ Some (Some d) → d.stream < n) → All (λ (d : Difference). d.stream < n) (flat_map option_to_list firsts)
named-so n [] each = All-nil (λ (d : Difference). d.stream < n)
named-so n (None ∷ firsts) each = named-so n firsts (λ i d there. each (suc i) d there)
named-so n (Some first ∷ firsts) each =
    All-cons (λ (d : Difference). d.stream < n) first (flat_map option_to_list firsts) (each 0 first refl) (named-so n firsts (λ i d there. each (suc i) d there))

names-differences : (wants : List (List Item)) (streams : List StreamTrace) (differences : List Difference) → length wants ≡ length streams → AreDifferences wants streams differences → NameStreams (length streams) differences
names-differences wants streams differences lists are = subst (NameStreams (length streams)) (sym are.are) (named-so (length streams) are.firsts each)
  where
    each : (i : ℕ) (d : Difference) → slice_get are.firsts i ≡ Some (Some d) → d.stream < length streams
    each i d there =
        let within : i < length are.firsts = slice_get_within are.firsts i (Some d) there in
        let inside : i < length streams = subst (λ (n : ℕ). i < n) are.many within in
        let s = slice_get-there streams i inside in
        let want = slice_get-there wants i (subst (λ (n : ℕ). i < n) (sym lists) inside) in
        let is = are.each i want.0 s.0 (Some d) want.1 s.1 there in
        subst (λ (n : ℕ). n < length streams) (sym is.stream) inside

compared-names : (split : PlainSplit) (wants : List (List Item)) → OneForEach split wants → (t : TraceText) (found : Comparison) → IsComparisonOf split wants t found → NamesStreams (length split.streams) found
compared-names split wants lists t (Misspelled fault) is = tt
compared-names split wants lists t (OtherHeader place) is = tt
compared-names split wants lists t (Compared differences) is =
    let many = many-heads split t is.0 in
    subst (λ (n : ℕ). NameStreams n differences) many (names-differences wants (streams_of t) differences (lists ∙ sym many) is.1)

pub compared-names_read : (split : PlainSplit) (wants : List (List Item)) → OneForEach split wants → (word bytes : List ℕ) (found : Comparison) → ReadsComparison split wants word bytes (Ok found)
    → NamesStreams (length split.streams) found
compared-names_read split wants lists word bytes found reads = by (trace_of bytes) reads
  where
    by : (read : Result TraceText TraceFault) → ReadsAgainst split wants word read (Ok found) → NamesStreams (length split.streams) found
    by (Ok t) is = compared-names split wants lists t found is
    by (Err fault) refused = absurd (not_read (refusal_of_trace word fault) found refused)

-- ---- some reading, some answer

module _ (some_comparison : SomeComparison) (split : PlainSplit) (wants : List (List Item)) (lists : OneForEach split wants) (word bytes : List ℕ) where
  compared-some : (read : Result TraceText TraceFault) → trace_of bytes ≡ read → HasSome (Result Comparison (List ℕ)) (ReadsAgainst split wants word read)
  compared-some (Ok t) is = λ none. some_comparison split wants lists bytes (by none)
    where
      same_trace : (one other : TraceText) → ◌≡◌ {A = Result TraceText TraceFault} (Ok one) (Ok other) → one ≡ other
      same_trace one other e = cc

      not_both : (one : TraceText) (fault : TraceFault) → ◌≡◌ {A = Result TraceText TraceFault} (Ok one) (Err fault) → ⊥
      not_both one fault e = cc

      by : ((read : Result Comparison (List ℕ)) → ReadsAgainst split wants word (Ok t) read → ⊥) → (said : Comparison) → IsComparison split wants bytes said → ⊥
      by none (Misspelled fault) refused = not_both t fault (sym is ∙ refused)
      by none (OtherHeader place) has = none (Ok (OtherHeader place)) (subst (λ (read : TraceText). IsComparisonOf split wants read (OtherHeader place)) (same_trace has.0 t (sym has.1.0 ∙ is)) has.1.1)
      by none (Compared differences) has =
          none (Ok (Compared differences)) (subst (λ (read : TraceText). IsComparisonOf split wants read (Compared differences)) (same_trace has.0 t (sym has.1.0 ∙ is)) has.1.1)
  compared-some (Err fault) is = λ none. let refused = RefusesBy-trace Comparison word fault (λ same. trace_free bytes (is ∙ ap Err same)) in none (Err refused.0) refused.1

differences-some : (split : PlainSplit) (differences : List Difference) → (a : Answer) × TellsDifferences split differences a
differences-some split [] = (_, refl)
differences-some split (first ∷ more) = (_, refl)

comparison-some : (split : PlainSplit) (wants : List (List Item)) (word : List ℕ) (t : TraceText) (found : Comparison) → IsComparisonOf split wants t found → (a : Answer) × TellsComparison split word found a
comparison-some split wants word t (Misspelled fault) is = absurd is
comparison-some split wants word t (OtherHeader place) is = (_, refl)
comparison-some split wants word t (Compared differences) is = differences-some split differences

told-some : (split : PlainSplit) (wants : List (List Item)) (word bytes : List ℕ) (found : Comparison) → ReadsComparison split wants word bytes (Ok found) → (a : Answer) × TellsComparison split word found a
told-some split wants word bytes found reads = by (trace_of bytes) reads
  where
    by : (read : Result TraceText TraceFault) → ReadsAgainst split wants word read (Ok found) → (a : Answer) × TellsComparison split word found a
    by (Ok t) is = comparison-some split wants word t found is
    by (Err fault) refused = absurd (not_read (refusal_of_trace word fault) found refused)

against-always : SomeComparison → (trace : List ℕ) (split : PlainSplit) (wants : List (List Item)) → OneForEach split wants → AsksAlways (against_ask trace split wants)
against-always some_comparison trace split wants lists = (
  λ bytes. compared-some some_comparison split wants lists trace bytes (trace_of bytes) refl,
  λ bytes found reads none. let a = told-some split wants trace bytes found reads in none a.0 a.1,
)

pub compared-always : SomeComparison → (value trace : List ℕ) (split : PlainSplit) → AsksAlways (valued_ask value split (compared_ask trace split))
compared-always some_comparison value trace split =
    (ReadsValue-some value split, λ bytes read reads. against-always some_comparison trace split (items_of_value split read) (many-items split (plain_port read) 0 split.streams))

-- ---- in code

-- what is found of a text
abbrev pub FoundAs : PlainSplit → List (List Item) → (word bytes : List ℕ) → Result Comparing Reply → Type 0
FoundAs split wants word bytes result = ReadsAs (Seen comparison_in (ReadsComparison split wants word bytes)) result

module _ (split : PlainSplit) (wants : List (List Item)) (word bytes : List ℕ) where
  found-spelled : (said : Comparison) (t : TraceText) → trace_of bytes ≡ Ok t → IsComparisonOf split wants t said → ReadsComparison split wants word bytes (Ok said)
  found-spelled said t is says = subst (λ (read : Result TraceText TraceFault). ReadsAgainst split wants word read (Ok said)) (sym is) says

  pub found-differences : (differences : List Difference) → IsComparedText split wants bytes (Ok differences) → FoundAs split wants word bytes (Ok (findings.Differences differences))
  found-differences differences has = found-spelled (Compared differences) has.0 has.1.0 has.1.1

  pub found-header : (place : ℕ) → IsComparedText split wants bytes (Err (faults.OtherHeader place)) → FoundAs split wants word bytes (Ok (findings.OtherHeader place))
  found-header place has = found-spelled (OtherHeader place) has.0 has.1.0 has.1.1

  refused-as : (fault : TraceFault) (refusal : Refusal) (reply : Reply) → refusal_of_trace word fault ≡ Some refusal → trace_of bytes ≡ Err fault → IsRefusedBy (Some refusal) reply
      → FoundAs split wants word bytes (Err reply)
  refused-as fault refusal reply some is (inl says) =
      subst (λ (r : Reply). FoundAs split wants word bytes (Err r)) (sym says)
      (subst (λ (read : Result TraceText TraceFault). ReadsAgainst split wants word read (Err (refusal_line refusal))) (sym is)
      (subst (λ (o : Option Refusal). RefusesBy {X = Comparison} o (Err (refusal_line refusal))) (sym some) refl))
  refused-as fault refusal reply some is (inr memory) = subst (λ (r : Reply). FoundAs split wants word bytes (Err r)) (sym memory) tt

  pub found-misspelled : (fault : TraceFault) (reply : Reply) → IsComparedText split wants bytes (Err (faults.Misspelled fault)) → IsRefusedBy (refusal_of_trace word fault) reply
      → FoundAs split wants word bytes (Err reply)
  found-misspelled (reading.BadHeader line) reply has refused = refused-as (reading.BadHeader line) _ reply refl has refused
  found-misspelled reading.TooManyCycles reply has refused = refused-as reading.TooManyCycles _ reply refl has refused
  found-misspelled (reading.BadRow line) reply has refused = refused-as (reading.BadRow line) _ reply refl has refused
  found-misspelled (reading.WrongSignals line) reply has refused = refused-as (reading.WrongSignals line) _ reply refl has refused
  found-misspelled (reading.RowsMissing want got) reply has refused = refused-as (reading.RowsMissing want got) _ reply refl has refused
  found-misspelled (reading.RowsLeft line) reply has refused = refused-as (reading.RowsLeft line) _ reply refl has refused
  found-misspelled reading.Memory reply has refused = subst (λ (r : Reply). FoundAs split wants word bytes (Err r)) (sym refused) tt

-- at the end of a file
pub compared-at_end : (file : CompareFile) (read : Result Comparing Reply) → IsFedSome file
    → ((bytes : List ℕ) → IsFed file.comparer bytes → FoundAs (split_of file.comparer) (wants_of file.comparer) file.word.now bytes read)
    → ReadsAs (compares_after file []) read
compared-at_end file (Ok one) some reads =
    λ bytes fed. subst (λ (l : List ℕ). ReadsComparison (split_of file.comparer) (wants_of file.comparer) file.word.now l (Ok (comparison_in one))) (sym (append-nil bytes)) (reads bytes fed)
compared-at_end file (Err (replies.Says (answers.Refused line))) some reads =
    λ bytes fed. subst (λ (l : List ℕ). ReadsComparison (split_of file.comparer) (wants_of file.comparer) file.word.now l (Err line)) (sym (append-nil bytes)) (reads bytes fed)
compared-at_end file (Err (replies.Says (answers.Verdict line))) some reads = reads some.0 some.1
compared-at_end file (Err (replies.Says (answers.Done text))) some reads = reads some.0 some.1
compared-at_end file (Err (replies.ReadFault line)) some reads = reads some.0 some.1
compared-at_end file (Err replies.Memory) some reads = tt

-- the readings of a new reader
read-new : (split : PlainSplit) (wants : List (List Item)) (word : List ℕ) (file : CompareFile) (bytes : List ℕ) (read : Result Comparing (List ℕ)) → IsNewBeside split wants word file → compares_after file bytes read
    → Seen comparison_in (ReadsComparison split wants word bytes) read
read-new split wants word file bytes read new reads =
    subst (λ (s : PlainSplit). Seen comparison_in (ReadsComparison s wants word bytes) read) new.split_is
    (subst (λ (w : List (List Item)). Seen comparison_in (ReadsComparison (split_of file.comparer) w word bytes) read) new.wants_are
    (subst (λ (w : List ℕ). Seen comparison_in (ReadsComparison (split_of file.comparer) (wants_of file.comparer) w bytes) read) new.word_is (reads [] new.fed)))

pub asked-comparer : (split : PlainSplit) (wants : List (List Item)) (word : List ℕ) (reader : CompareFile) (told : Option Files) (file : FileWord) (old new : Option (List ℕ × ℕ)) (rose : Type 0) (read : Result Comparing Reply)
    → IsNewBeside split wants word reader → IsAsked told file (compares_after reader) old new rose read → IsAsked told file (λ bytes. Seen comparison_in (ReadsComparison split wants word bytes)) old new rose read
asked-comparer split wants word reader told file old new rose (Ok one) is asked = (asked.0, (asked.1.0, (read-new split wants word reader asked.0 (Ok one) is asked.1.1.0, asked.1.1.1)))
asked-comparer split wants word reader told file old new rose (Err reply) is (inl s) = inl s
asked-comparer split wants word reader told file old new rose (Err reply) is (inr d) =
    inr (d.0, (d.1.0, (d.1.1.0, (read-new split wants word reader d.0 (Err d.1.1.0) is d.1.1.1.0, d.1.1.1.1))))
