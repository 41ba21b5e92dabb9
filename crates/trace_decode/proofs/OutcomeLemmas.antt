-- The outcome of a trace, by the state that a decoder keeps.
use Rattle.std.proofs.Common.{◌≡◌, ◌∙◌, ◌⊎◌, inl, inr, ℕ, zero, suc, ◌+◌, ◌*◌, ◌<◌, ◌≤◌, Bool, true, false, ◌&&◌, if◌then◌else◌, List, [], ◌∷◌, length, map, take, Option, Some, None, IfSome, Result, Ok, Err, All, Contains, slice_get, is_some, is_none, refl, sym, ap, subst, arith, append-nil}
use Rattle.std.specs.Prelude.{option_map}
use Rattle.std.specs.Option.{option_to_list}
use Rattle.std.proofs.lemmas.Grind.{flat_map-append}
use Rattle.std.proofs.lemmas.Bool.{cases_lt}
use Rattle.std.proofs.lemmas.List.{length-map}
use Rattle.std.proofs.lemmas.List.Concat.{flat_map-cons}
use Rattle.std.proofs.lemmas.List.Elements.{All-cons, All-contains, All-head, All-nil, All-tail, Contains-append_left, Contains-append_right, Contains-push}
use Rattle.std.proofs.lemmas.Nat.{mul-add-lt}
use Rattle.std.proofs.lemmas.Option.{slice_get-map, slice_get_within}
use Rattle.tydi_base.proofs.PlaceLemmas.{slice_get-there}
use Rattle.tydi_base.specs.Level.{IsLevel}
use Rattle.physical_stream.specs.Params.{Parameters}
use Rattle.physical_stream.specs.Cycles.{Cycle, StreamTrace, done_in, done_of, items_done, waiting_of}
use Rattle.physical_stream.specs.Items.{items_of, items_of_all}
use Rattle.physical_stream.specs.Breaks.{BreaksAfter, OnShown}
use Rattle.physical_stream.specs.First.{IsFirst, IsNotAfter, Offence}
use Rattle.physical_stream.specs.Ending.{ending_after, ending_of, unclosed}
use Rattle.physical_stream.specs.Rules.{number_of_rule}
use Rattle.physical_stream.specs.Shape.{IsNested, is_whole, tail_of}
use Rattle.physical_stream.specs.declared.end.End.{End}
use Rattle.physical_stream.specs.declared.end.End.TheVariants as ends
use Rattle.physical_stream.specs.declared.head.Head.{Head}
use Rattle.physical_stream.specs.declared.item.Item.{Item}
use Rattle.physical_stream.specs.declared.item.Item.TheVariants as items
use Rattle.physical_stream.specs.declared.item.Tail.{Tail}
use Rattle.physical_stream.specs.declared.item.Tail.TheVariants as tails
use Rattle.physical_stream.specs.declared.rule.Rule.{Rule}
use Rattle.physical_stream.specs.declared.rule.Rule.TheVariants.{Hold, Index, LaneLast, Strobe, Start, End as Ends, Empty, InnerPause, OuterPause, Nest, Tag}
use Rattle.physical_stream.specs.declared.transfer.Transfer.{Transfer}
use Rattle.complexity_rules.proofs.NestingLemmas.{items_nested}
use Rattle.logical_types.specs.Tree.{Ltype}
use Rattle.logical_types.specs.Width.{width_of}
use Rattle.type_split.specs.Streams.{IsPortSplit, PlainSplit}
use Rattle.type_split.specs.declared.split.Phys.{Phys}
use Rattle.logical_value.specs.Agreement.{Agrees, StandsForSome, bad_tag, names_variants}
use Rattle.logical_value.specs.Tree.{Tree}
use Rattle.logical_value.proofs.LawLemmas.{bad_tags_agree_with_none}
use Rattle.logical_value.proofs.NameLemmas.{names_where_it_stands, names_where_none_is_bad}
use Rattle.value_views.specs.Laws.{FitsStream}
use Rattle.value_views.proofs.NodeLemmas.{has-node, node-width}
use Rattle.cycle_trace.specs.Survey.{Answers, OffendsByEither, UnfinishedStream, counts_of, first_unfinished, or_unfinished, survey_of}
use Rattle.cycle_trace.specs.Surveying.{offence_of, offends_in}
use Rattle.cycle_trace.specs.Trace.{TraceText, cycles_of_stream, streams_of}
use Rattle.cycle_trace.specs.declared.surveying.counts.Counts.{Counts}
use Rattle.cycle_trace.specs.declared.surveying.counts.SurveyFault.{SurveyFault}
use Rattle.cycle_trace.specs.declared.surveying.counts.SurveyFault.TheVariants as surveys
use Rattle.cycle_trace.specs.declared.surveying.outcome.FoundOffence.{FoundOffence}
use Rattle.cycle_trace.proofs.RowsLemmas.{turn_below}
use Rattle.cycle_trace.proofs.StreamLemmas.{head_at, length-streams, stream_of_head, stream_with}
use Rattle.port_drive.specs.Drives.{head_of_stream, heads_of}
use Rattle.port_drive.specs.Laws.{done_on}
use Rattle.trace_decode.specs.Finishing.{AreFinished, IsFinished, IsJoined, IsWord, fault_of_survey}
use Rattle.trace_decode.specs.Keeping.{HasDims, KeepsStream, are_named, are_named_in, are_named_shown, is_named}
use Rattle.trace_decode.specs.Outcome.{IsDecoded, IsOutcome, IsWhole, Offends, Unfinished, outcome_of_fault, users_of, users_on}
use Rattle.trace_decode.specs.Standing.{HasBadTag, RunsOver, TagsSay}
use Rattle.trace_decode.specs.Tags.{BreaksTag, BreaksTagAfter, OffendsByTag, OffendsWithTags, element_at, element_of_node, element_of_stream}
use Rattle.trace_decode.specs.declared.decode_run.DecodeRun.{DecodeRun}
use Rattle.trace_decode.specs.declared.decoded.Decoded.{Decoded}
use Rattle.trace_decode.specs.declared.fault.DecodeFault.{DecodeFault}
use Rattle.trace_decode.specs.declared.fault.DecodeFault.TheVariants as faults
use Rattle.trace_decode.specs.declared.stream_kept.StreamKept.{StreamKept}
use Rattle.trace_decode.proofs.CycleLemmas.{cycle_there, row_there}
use Rattle.trace_decode.proofs.JoinLemmas.{maps_same}
use Rattle.trace_decode.proofs.KeepLemmas.{are_named-append}
use Rattle.trace_decode.proofs.RowLemmas.{same_some}
use Rattle.trace_decode.proofs.RunLemmas.{has_phys}

-- ---- tags and values

-- a word with a tag that names no variant agrees with no value
pub agrees_with_none : (element : Ltype) (word : List Bool) → names_variants element word ≡ false → (value : Tree) → Agrees element word value → ⊥
agrees_with_none element word unnamed value agrees = by_tag (bad_tag [] element word) refl
  where
    by_tag : (bad : Option (List (List ℕ))) → bad_tag [] element word ≡ bad → ⊥
    by_tag None none = let said = sym unnamed ∙ names_where_none_is_bad [] element word ∙ ap is_none none in cc
    by_tag (Some path) some = bad_tags_agree_with_none element word [] path value some agrees

-- a word whose tags name variants stands for some value
pub stands_for_some : (element : Ltype) (word : List Bool) → names_variants element word ≡ true → StandsForSome element word
stands_for_some element word named = (names_where_it_stands element word).0 named

all_named : (element : Ltype) (some : List Item) → are_named element some ≡ true → All (λ item. is_named element item ≡ true) some
all_named element [] named = All-nil (λ item. is_named element item ≡ true)
all_named element (item ∷ more) named = by_test (is_named element item) refl (λ rest. all_named element more rest)
  where
    by_test : (test : Bool) → is_named element item ≡ test → (are_named element more ≡ true → All (λ i. is_named element i ≡ true) more) → All (λ i. is_named element i ≡ true) (item ∷ more)
    by_test true is rest = All-cons (λ i. is_named element i ≡ true) item more is (rest (ap (λ (b : Bool). b && are_named element more) (sym is) ∙ named))
    by_test false is rest = let said = ap (λ (b : Bool). b && are_named element more) (sym is) ∙ named in cc

-- a word among items with a tag that names no variant
record HasUnnamed (element : Ltype) (some : List Item) : Type 0 where
  word : List Bool
  among : Contains some (items.Elem word)
  unnamed : names_variants element word ≡ false

has_unnamed : (element : Ltype) (some : List Item) → are_named element some ≡ false → HasUnnamed element some
has_unnamed element [] unnamed = cc
has_unnamed element (items.Close dim ∷ more) unnamed =
    let rest = has_unnamed element more unnamed in
    record { word = rest.word; among = Contains-append_right (items.Close dim ∷ []) more (items.Elem rest.word) rest.among; unnamed = rest.unnamed }
has_unnamed element (items.Elem word ∷ more) unnamed = by_test (names_variants element word) refl (λ rest. has_unnamed element more rest)
  where
    by_test : (test : Bool) → names_variants element word ≡ test → (are_named element more ≡ false → HasUnnamed element more) → HasUnnamed element (items.Elem word ∷ more)
    by_test false is rest = record { word = word; among = Contains-append_left (items.Elem word ∷ []) more (items.Elem word) (Contains-push [] (items.Elem word)); unnamed = is }
    by_test true is rest =
        let found = rest (ap (λ (b : Bool). b && are_named element more) (sym is) ∙ unnamed) in
        record { word = found.word; among = Contains-append_right (items.Elem word ∷ []) more (items.Elem found.word) found.among; unnamed = found.unnamed }

-- the rule on tags by the test
pub breaks_where_unnamed : (element : Ltype) (p : Parameters) (shown : Option Transfer) → are_named_shown element p shown ≡ false → OnShown (BreaksTag element p) shown
breaks_where_unnamed element p None unnamed = cc
breaks_where_unnamed element p (Some t) unnamed =
    let found = has_unnamed element (items_of p t) unnamed in record { word = found.word; shown = found.among; agrees_with_none = agrees_with_none element found.word found.unnamed }

pub unnamed_where_broken : (element : Ltype) (p : Parameters) (shown : Option Transfer) → OnShown (BreaksTag element p) shown → are_named_shown element p shown ≡ false
unnamed_where_broken element p None broken = absurd broken
unnamed_where_broken element p (Some t) broken = by_test (are_named element (items_of p t)) refl
  where
    by_test : (test : Bool) → are_named element (items_of p t) ≡ test → test ≡ false
    by_test false is = refl
    by_test true is =
        let named = All-contains (λ item. is_named element item ≡ true) (items_of p t) (items.Elem broken.word) (all_named element (items_of p t) is) broken.shown in
        let some = stands_for_some element broken.word named in
        absurd (broken.agrees_with_none some.0 some.1.agrees)

-- ---- offences by the rule on tags

pub of_tag : (rule : Rule) (element : Ltype) (p : Parameters) (before : List Cycle) (now : Cycle) → BreaksTagAfter element rule p before now → (rule ≡ Tag) × OnShown (BreaksTag element p) now.shown
of_tag Tag element p before now broken = (refl, broken.1)
of_tag Hold element p before now broken = absurd broken
of_tag Index element p before now broken = absurd broken
of_tag LaneLast element p before now broken = absurd broken
of_tag Strobe element p before now broken = absurd broken
of_tag Start element p before now broken = absurd broken
of_tag Ends element p before now broken = absurd broken
of_tag Empty element p before now broken = absurd broken
of_tag InnerPause element p before now broken = absurd broken
of_tag OuterPause element p before now broken = absurd broken
of_tag Nest element p before now broken = absurd broken

-- there are no more rows than the header asks for, and the level of each stream is in form
pub record HasForm (t : TraceText) : Type 0 where
  pub most : length t.rows ≤ t.cycles * length t.heads
  pub level : (s : ℕ) (head : Head) → slice_get t.heads s ≡ Some head → IsLevel head.params.level

module _ (split : PlainSplit) (t : TraceText) where
  pub bad_offends : HasForm t → (c s : ℕ) → HasBadTag split t c s → OffendsByTag split t (record { cycle = c; stream = s; rule = Tag })
  bad_offends form c s bad =
      let inside = slice_get_within t.rows (c * length t.heads + s) bad.row bad.stands in
      let in_cycles : c < t.cycles = turn_below t.cycles (length t.heads) c s (c * length t.heads + s) refl (let most = form.most in omega arith) in
      let level = form.level s bad.head bad.there in
      record {
        trace = stream_with t s bad.head;
        stands = stream_of_head t s ∙ ap (option_map (stream_with t s)) bad.there;
        breaks = record {
          now = bad.row;
          stands = cycle_there t s c bad.row bad.stands t.cycles in_cycles;
          broken = (level.first.1, breaks_where_unnamed (element_at split s) bad.head.params bad.row.shown bad.unnamed);
        };
      }

  offends_bad : (o : Offence) → OffendsByTag split t o → (o.rule ≡ Tag) × HasBadTag split t o.cycle o.stream
  offends_bad o offends =
      let found = head_at t o.stream offends.trace offends.stands in
      let broken = of_tag o.rule (element_at split o.stream) offends.trace.params _ offends.breaks.now offends.breaks.broken in
      let cycles = ap (λ (x : StreamTrace). slice_get x.cycles o.cycle) (sym found.2) ∙ offends.breaks.stands in (
        broken.0,
        record {
          head = found.0;
          there = found.1;
          row = offends.breaks.now;
          stands = row_there t o.stream o.cycle offends.breaks.now t.cycles cycles;
          unnamed =
              ap (λ (x : StreamTrace). are_named_in (element_at split o.stream) x.params offends.breaks.now) (sym found.2)
              ∙ unnamed_where_broken (element_at split o.stream) offends.trace.params offends.breaks.now.shown broken.1;
        },
      )

module _ (split : PlainSplit) (t : TraceText) (run : DecodeRun) (runs : RunsOver split t run) where
  kept_here : (s : ℕ) (head : Head) → slice_get t.heads s ≡ Some head → (one : StreamKept) × KeepsStream (stream_with t s head) one
  kept_here s head there =
      let stream = stream_of_head t s ∙ ap (option_map (stream_with t s)) there in
      let one = slice_get-there run.kept.items s (omega (arith, runs.kept.many, slice_get_within (streams_of t) s (stream_with t s head) stream)) in
      (one.0, runs.kept.each s (stream_with t s head) one.0 stream one.1)

  form : HasForm t
  form = record { most = runs.most; level = λ s head there. (kept_here s head there).1.level }

  -- the row that stands first has the first offence
  not_after : (n c s d u : ℕ) → s < n → u < n → c * n + s ≤ d * n + u → (c < d) ⊎ ((c ≡ d) × ((s < u) ⊎ (s ≡ u)))
  not_after n c s d u inside within less = by_cases (cases_lt c d) (cases_lt d c)
    where
      by_cases : (c < d) ⊎ (d ≤ c) → (d < c) ⊎ (c ≤ d) → (c < d) ⊎ ((c ≡ d) × ((s < u) ⊎ (s ≡ u)))
      by_cases (inl before) other = inl before
      by_cases (inr more) (inl after) = absurd (omega (arith, less, mul-add-lt d n u c after within))
      by_cases (inr more) (inr most) =
          let even : c ≡ d = omega arith in
          let low : s ≤ u = omega (arith, less, ap (λ (k : ℕ). k * n) even) in
          inr (even, by_streams low (cases_lt s u))
        where
          by_streams : s ≤ u → (s < u) ⊎ (u ≤ s) → (s < u) ⊎ (s ≡ u)
          by_streams low (inl before) = inl before
          by_streams low (inr past) = inr (omega arith)

  pub tags_first : IsFirst (OffendsByTag split t) (option_map offence_of run.tag)
  tags_first = by_tag run.tag runs.tag
    where
      by_tag : (tag : Option FoundOffence) → TagsSay split t tag → IsFirst (OffendsByTag split t) (option_map offence_of tag)
      by_tag None none = λ o offends. none o.cycle o.stream (offends_bad split t o offends).1
      by_tag (Some found) is = (
        subst (λ (r : Rule). OffendsByTag split t (record { cycle = found.cycle; stream = found.stream; rule = r })) (sym is.rule) (bad_offends split t form found.cycle found.stream is.bad),
        λ o offends. by_place o (offends_bad split t o offends),
      )
        where
          by_order : (o : Offence) → o.rule ≡ Tag → (found.cycle < o.cycle) ⊎ ((found.cycle ≡ o.cycle) × ((found.stream < o.stream) ⊎ (found.stream ≡ o.stream))) → IsNotAfter (offence_of found) o
          by_order o rule (inl before) = inl before
          by_order o rule (inr (same, inl less)) = inr (same, inl less)
          by_order o rule (inr (same, inr even)) = inr (same, inr (even, omega (arith, ap number_of_rule is.rule, ap number_of_rule rule)))

          by_place : (o : Offence) → (o.rule ≡ Tag) × HasBadTag split t o.cycle o.stream → IsNotAfter (offence_of found) o
          by_place o both =
              by_order o both.0
              (not_after (length t.heads) found.cycle found.stream o.cycle o.stream (slice_get_within t.heads found.stream is.bad.head is.bad.there) (slice_get_within t.heads o.stream both.1.head both.1.there)
              (is.first o.cycle o.stream both.1))

-- ---- offences by all rules

module _ (split : PlainSplit) (t : TraceText) where
  abbrev Either : Offence → Type 0
  Either = OffendsByEither (offends_in t) (OffendsByTag split t)

  to_all : (o : Offence) → Either o → OffendsWithTags split t o
  to_all o (inl one) = record { trace = one.trace; stands = one.stands; breaks = record { now = one.breaks.now; stands = one.breaks.stands; broken = inl one.breaks.broken } }
  to_all o (inr one) = record { trace = one.trace; stands = one.stands; breaks = record { now = one.breaks.now; stands = one.breaks.stands; broken = inr one.breaks.broken } }

  from_all : (o : Offence) → OffendsWithTags split t o → Either o
  from_all o one = by_rule one.breaks.broken
    where
      by_rule : BreaksAfter o.rule one.trace.params (take o.cycle one.trace.cycles) one.breaks.now
          ⊎ BreaksTagAfter (element_at split o.stream) o.rule one.trace.params (take o.cycle one.trace.cycles) one.breaks.now → Either o
      by_rule (inl broken) = inl (record { trace = one.trace; stands = one.stands; breaks = record { now = one.breaks.now; stands = one.breaks.stands; broken = broken } })
      by_rule (inr broken) = inr (record { trace = one.trace; stands = one.stands; breaks = record { now = one.breaks.now; stands = one.breaks.stands; broken = broken } })

  first_all : (first : Option Offence) → IsFirst Either first → IsFirst (OffendsWithTags split t) first
  first_all None none = λ o offends. none o (from_all o offends)
  first_all (Some first) is = (to_all first is.0, λ o offends. is.1 o (from_all o offends))

  module _ (heads : t.heads ≡ heads_of split) where
    -- the outcome that the error of a survey says
    pub outcome_from : (fault : SurveyFault) → Answers Either (streams_of t) (Err fault) → IfSome (outcome_of_fault (fault_of_survey fault)) (IsOutcome split t)
    outcome_from surveys.Memory answers = tt
    outcome_from (surveys.Offence cycle stream rule) answers = by_first answers.first answers.is_first (first_unfinished 0 (streams_of t)) answers.says
      where
        by_first : (first : Option Offence) → IsFirst Either first → (unfinished : Option UnfinishedStream) → ◌≡◌ {A = Result Counts SurveyFault} (Err (surveys.Offence cycle stream rule)) (survey_of first unfinished (counts_of (streams_of t)))
            → IsOutcome split t (Offends (record { cycle = cycle; stream = stream; rule = rule }))
        by_first (Some o) is unfinished says =
            let same_cycle : cycle ≡ o.cycle = cc in
            let same_stream : stream ≡ o.stream = cc in
            let same_rule : rule ≡ o.rule = cc in
            (heads, rw (same_cycle, same_stream, same_rule) (first_all (Some o) is))
        by_first None is None says = absurd cc
        by_first None is (Some u) says = absurd cc
    outcome_from (surveys.Unfinished stream end) answers = by_first answers.first answers.is_first (first_unfinished 0 (streams_of t)) refl answers.says
      where
        by_first : (first : Option Offence) → IsFirst Either first → (unfinished : Option UnfinishedStream) → first_unfinished 0 (streams_of t) ≡ unfinished
            → ◌≡◌ {A = Result Counts SurveyFault} (Err (surveys.Unfinished stream end)) (survey_of first unfinished (counts_of (streams_of t)))
            → IsOutcome split t (Unfinished (record { stream = stream; end = end }))
        by_first (Some o) is unfinished same says = absurd cc
        by_first None is None same says = absurd cc
        by_first None is (Some u) same says =
            let same_stream : u.stream ≡ stream = cc in
            let same_end : u.end ≡ end = cc in
            (record { heads = heads; first = first_all None is }, same ∙ ap (λ (n : ℕ). let x : UnfinishedStream = record { stream = n; end = u.end } in Some x) same_stream ∙ ap (λ (e : End). let x : UnfinishedStream = record { stream = stream; end = e } in Some x) same_end)

    -- a survey that counts found a trace that is legal and ends whole
    pub whole_from : (counts : Counts) → Answers Either (streams_of t) (Ok counts) → IsWhole split t
    whole_from counts answers = by_first answers.first answers.is_first (first_unfinished 0 (streams_of t)) refl answers.says
      where
        by_first : (first : Option Offence) → IsFirst Either first → (unfinished : Option UnfinishedStream) → first_unfinished 0 (streams_of t) ≡ unfinished
            → ◌≡◌ {A = Result Counts SurveyFault} (Ok counts) (survey_of first unfinished (counts_of (streams_of t))) → IsWhole split t
        by_first (Some o) is unfinished same says = absurd cc
        by_first None is (Some u) same says = absurd cc
        by_first None is None same says = record { legal = record { heads = heads; first = first_all None is }; ends = same }

-- ---- streams that end whole

ends_whole : (number : ℕ) (streams : List StreamTrace) → first_unfinished number streams ≡ None → (i : ℕ) (s : StreamTrace) → slice_get streams i ≡ Some s → ending_of s.params s.cycles ≡ ends.Whole
ends_whole number [] none i s here = cc
ends_whole number (x ∷ streams) none zero s here = by_end (ending_of x.params x.cycles) refl
  where
    by_end : (end : End) → ending_of x.params x.cycles ≡ end → ending_of s.params s.cycles ≡ ends.Whole
    by_end ends.Whole is = let same : x ≡ s = same_some here in ap (λ (y : StreamTrace). ending_of y.params y.cycles) (sym same) ∙ is
    by_end ends.Pending is = let said = sym (ap (λ (e : End). or_unfinished number e (first_unfinished (suc number) streams)) is) ∙ none in cc
    by_end (ends.Unclosed k) is = let said = sym (ap (λ (e : End). or_unfinished number e (first_unfinished (suc number) streams)) is) ∙ none in cc
ends_whole number (x ∷ streams) none (suc i) s here = ends_whole (suc number) streams (rest (ending_of x.params x.cycles) refl) i s here
  where
    rest : (end : End) → ending_of x.params x.cycles ≡ end → first_unfinished (suc number) streams ≡ None
    rest ends.Whole is = sym (ap (λ (e : End). or_unfinished number e (first_unfinished (suc number) streams)) is) ∙ none
    rest ends.Pending is = let said = sym (ap (λ (e : End). or_unfinished number e (first_unfinished (suc number) streams)) is) ∙ none in cc
    rest (ends.Unclosed k) is = let said = sym (ap (λ (e : End). or_unfinished number e (first_unfinished (suc number) streams)) is) ∙ none in cc

whole_after : (dims : ℕ) (tail : Option Tail) (test : Bool) → is_whole dims tail ≡ test → (if test then ends.Whole else unclosed tail) ≡ ends.Whole → test ≡ true
whole_after dims tail true is whole = refl
whole_after dims None false is whole = cc
whole_after dims (Some tails.Elem) false is whole = cc
whole_after dims (Some (tails.Close dim)) false is whole = cc

tail_whole : (p : Parameters) (cycles : List Cycle) → ending_of p cycles ≡ ends.Whole → is_whole p.dims (tail_of (items_done p cycles)) ≡ true
tail_whole p cycles whole = by_waiting (is_some (waiting_of cycles)) whole
  where
    by_waiting : (waits : Bool) → (if waits then ends.Pending else ending_after p.dims (tail_of (items_done p cycles))) ≡ ends.Whole → is_whole p.dims (tail_of (items_done p cycles)) ≡ true
    by_waiting true is = cc
    by_waiting false is = whole_after p.dims (tail_of (items_done p cycles)) (is_whole p.dims (tail_of (items_done p cycles))) refl is

-- the items done have the tags of the cycles
all_done_named : (element : Ltype) (p : Parameters) (cycles : List Cycle) → ((c : ℕ) (now : Cycle) → slice_get cycles c ≡ Some now → are_named_in element p now ≡ true) → are_named element (items_done p cycles) ≡ true
all_done_named element p [] each = refl
all_done_named element p (now ∷ more) each =
    ap (λ (ts : List Transfer). are_named element (items_of_all p ts)) (flat_map-cons done_in now more)
    ∙ ap (are_named element) (flat_map-append (items_of p) (done_in now) (done_of more))
    ∙ are_named-append element (items_of_all p (done_in now)) (items_done p more)
    ∙ ap (λ (b : Bool). b && are_named element (items_done p more)) (first now.ready now.shown (each zero now refl))
    ∙ all_done_named element p more (λ c x here. each (suc c) x here)
  where
    first : (ready : Bool) (shown : Option Transfer) → are_named_shown element p shown ≡ true → are_named element (items_of_all p (if ready then option_to_list shown else [])) ≡ true
    first false shown named = refl
    first true None named = refl
    first true (Some t) named = ap (are_named element) (append-nil (items_of p t)) ∙ named

words_so : (element : Ltype) (p : Parameters) (some : List Item) → p.element ≡ width_of element → All (FitsStream p) some → All (λ item. is_named element item ≡ true) some → All (IsWord element) some
words_so element p [] width fit named = All-nil (IsWord element)
words_so element p (items.Elem word ∷ more) width fit named =
    All-cons (IsWord element) (items.Elem word) more (All-head (FitsStream p) (items.Elem word) more fit ∙ width, stands_for_some element word (All-head (λ item. is_named element item ≡ true) (items.Elem word) more named))
    (words_so element p more width (All-tail (FitsStream p) (items.Elem word) more fit) (All-tail (λ item. is_named element item ≡ true) (items.Elem word) more named))
words_so element p (items.Close dim ∷ more) width fit named =
    All-cons (IsWord element) (items.Close dim) more tt
    (words_so element p more width (All-tail (FitsStream p) (items.Close dim) more fit) (All-tail (λ item. is_named element item ≡ true) (items.Close dim) more named))

-- the items done on a stream are nested and whole, and each element is a word that stands for some value
pub record AreItems (dims : ℕ) (element : Ltype) (done : List Item) : Type 0 where
  pub nested : IsNested done
  pub whole : is_whole dims (tail_of done) ≡ true
  pub words : All (IsWord element) done

module _ (split : PlainSplit) (port : IsPortSplit split) (t : TraceText) (form : HasForm t) (is_whole_so : IsWhole split t) where
  unnamed_offends : (c s : ℕ) → HasBadTag split t c s → ⊥
  unnamed_offends c s bad = is_whole_so.legal.first (record { cycle = c; stream = s; rule = Tag }) (to_all split t (record { cycle = c; stream = s; rule = Tag }) (inr (bad_offends split t form c s bad)))

  pub items_at : (i : ℕ) (phys : Phys) (head : Head) → slice_get split.streams i ≡ Some phys → slice_get t.heads i ≡ Some head → head ≡ head_of_stream phys
      → All (FitsStream head.params) (items_done head.params (cycles_of_stream t i)) → AreItems phys.params.dims (element_at split i) (items_done head.params (cycles_of_stream t i))
  items_at i phys head there here same fit =
      let params : head.params ≡ phys.params = ap (λ (h : Head). h.params) same in
      let stream = stream_of_head t i ∙ ap (option_map (stream_with t i)) here in
      let has = has-node split port i phys there in
      let element : element_at split i ≡ has.node.element = ap (element_of_stream split.nodes) there ∙ ap element_of_node has.found in
      let width : head.params.element ≡ width_of (element_at split i) =
      ap (λ (p : Parameters). p.element) (params ∙ has.params) ∙ node-width split port phys.node has.node has.found ∙ ap width_of (sym element) in
      let named : are_named (element_at split i) (items_done head.params (cycles_of_stream t i)) ≡ true =
      all_done_named (element_at split i) head.params (cycles_of_stream t i) (λ c now at. by_test c now at (are_named_in (element_at split i) head.params now) refl) in
      record {
        nested =
            items_nested head.params (cycles_of_stream t i) (form.level i head here)
            (λ number broken. is_whole_so.legal.first (record { cycle = number; stream = i; rule = Nest })
            (record { trace = stream_with t i head; stands = stream; breaks = record { now = broken.now; stands = broken.stands; broken = inl broken.broken } }));
        whole =
            subst (λ (p : Parameters). is_whole p.dims (tail_of (items_done head.params (cycles_of_stream t i))) ≡ true) params
            (tail_whole head.params (cycles_of_stream t i) (ends_whole 0 (streams_of t) is_whole_so.ends i (stream_with t i head) stream));
        words = words_so (element_at split i) head.params (items_done head.params (cycles_of_stream t i)) width fit (all_named (element_at split i) (items_done head.params (cycles_of_stream t i)) named);
      }
    where
      by_test : (c : ℕ) (now : Cycle) → slice_get (cycles_of_stream t i) c ≡ Some now → (test : Bool) → are_named_in (element_at split i) head.params now ≡ test → are_named_in (element_at split i) head.params now ≡ true
      by_test c now at true is = is
      by_test c now at false is = absurd (unnamed_offends c i (record { head = head; there = here; row = now; stands = row_there t i c now t.cycles at; unnamed = is }))

module _ (split : PlainSplit) (port : IsPortSplit split) (t : TraceText) (run : DecodeRun) (runs : RunsOver split t run) (is_whole_so : IsWhole split t) where
  finished_at : (i : ℕ) (phys : Phys) (head : Head) (one : StreamKept) → slice_get split.streams i ≡ Some phys → slice_get t.heads i ≡ Some head → head ≡ head_of_stream phys → KeepsStream (stream_with t i head) one
      → IsFinished phys (element_at split i) (items_done head.params (cycles_of_stream t i)) one
  finished_at i phys head one there here same keeps =
      let params : head.params ≡ phys.params = ap (λ (h : Head). h.params) same in
      let items = items_at split port t (form split t run runs) is_whole_so i phys head there here same keeps.fit in
      record {
        built = record { builds = keeps.builds; dims_are = subst (λ (p : Parameters). HasDims p.dims one.builder) params keeps.dims; nested = items.nested; whole = items.whole };
        words = items.words;
      }

  pub are_finished : AreFinished split (done_on (streams_of t)) run.kept.items
  are_finished = record {
    many = omega (arith, runs.kept.many, length-streams t 0 t.heads, heads_many);
    lists = omega (arith, length-map (streams_of t) (λ (s : StreamTrace). items_done s.params s.cycles), length-streams t 0 t.heads, heads_many);
    each = each;
  }
    where
      heads_many : length t.heads ≡ length split.streams
      heads_many = ap length runs.heads ∙ length-map split.streams head_of_stream

      each : (i : ℕ) (phys : Phys) (some : List Item) (one : StreamKept) → slice_get split.streams i ≡ Some phys → slice_get (done_on (streams_of t)) i ≡ Some some → slice_get run.kept.items i ≡ Some one
          → IsFinished phys (element_at split i) some one
      each i phys some one there here found =
          let head = slice_get-there t.heads i (omega (arith, slice_get_within split.streams i phys there, heads_many)) in
          let stream = stream_of_head t i ∙ ap (option_map (stream_with t i)) head.1 in
          let same_items : items_done head.0.params (cycles_of_stream t i) ≡ some =
          same_some (sym (slice_get-map (λ (s : StreamTrace). items_done s.params s.cycles) (streams_of t) i ∙ ap (option_map (λ (s : StreamTrace). items_done s.params s.cycles)) stream) ∙ here) in
          let at = has_phys split t.heads i head.0 runs.heads head.1 in
          let same_phys : at.phys ≡ phys = same_some (sym at.there ∙ there) in
          let keeps = runs.kept.each i (stream_with t i head.0) one stream found in
          subst (λ (l : List Item). IsFinished phys (element_at split i) l one) same_items (finished_at i phys head.0 one there head.1 (at.is ∙ ap head_of_stream same_phys) keeps)

  all_users : map (λ (one : StreamKept). one.users) run.kept.items ≡ users_on (streams_of t)
  all_users = maps_same (λ (one : StreamKept). one.users) users_of run.kept.items (streams_of t) runs.kept.many (λ i one s found here. (runs.kept.each i s one here found).users)

  -- the outcome where the streams are joined
  pub decoded_from : (result : Result Decoded DecodeFault) → IsJoined split (done_on (streams_of t)) run.kept.items result → IsDecoded split t result
  decoded_from (Ok decoded) joined = (is_whole_so, (joined.0, joined.1 ∙ all_users))
  decoded_from (Err (faults.Disagree path packet)) joined = (is_whole_so, joined)
  decoded_from (Err faults.Memory) joined = tt
  decoded_from (Err (faults.OtherHeader stream)) joined = absurd joined
  decoded_from (Err (faults.Offence cycle stream rule)) joined = absurd joined
  decoded_from (Err (faults.Unfinished stream end)) joined = absurd joined
