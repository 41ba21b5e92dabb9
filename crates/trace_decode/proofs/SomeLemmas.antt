-- No trace is without an outcome: what it is not, it is no case of.
use Rattle.std.proofs.Common.{◌≡◌, ◌∙◌, ℕ, zero, suc, ◌+◌, ◌*◌, ◌<◌, Bool, true, false, if◌then◌else◌, List, [], ◌∷◌, length, map, take, Option, Some, None, option_map, slice_get, Result, Ok, Err, refl, sym, ap, subst, arith}
use Rattle.std.specs.List.{All}
use Rattle.std.specs.Option.{option_to_list}
use Rattle.std.proofs.lemmas.Grind.{flat_map-append}
use Rattle.std.proofs.lemmas.List.{length-map}
use Rattle.std.proofs.lemmas.List.Concat.{flat_map-cons}
use Rattle.std.proofs.lemmas.List.Elements.{All-append, All-cons, All-head, All-nil, All-tail}
use Rattle.std.proofs.lemmas.Option.{slice_get-map, slice_get_within}
use Rattle.tydi_base.proofs.PlaceLemmas.{slice_get-there}
use Rattle.physical_stream.specs.Params.{Parameters}
use Rattle.physical_stream.specs.Cycles.{Cycle, StreamTrace, done_in, done_of, items_done}
use Rattle.physical_stream.specs.First.{IsFirst, Offence}
use Rattle.physical_stream.specs.Items.{items_of, items_of_all}
use Rattle.physical_stream.specs.Signals.{Fits}
use Rattle.physical_stream.specs.StreamLine.{IsHead}
use Rattle.physical_stream.specs.declared.head.Head.{Head}
use Rattle.physical_stream.specs.declared.item.Item.{Item}
use Rattle.physical_stream.specs.declared.item.Item.TheVariants as items
use Rattle.physical_stream.specs.declared.transfer.Transfer.{Transfer}
use Rattle.nest_shape.specs.Flat.{HaveDepth, flat_all}
use Rattle.nest_shape.specs.Shape.{ClosesBelow}
use Rattle.nest_shape.specs.Tree.{plain, plain_nests, trees_of}
use Rattle.nest_shape.specs.Tree as nests
use Rattle.nest_shape.proofs.PlainLemmas.{trees_of-map}
use Rattle.type_split.specs.Streams.{PlainSplit}
use Rattle.type_split.specs.declared.split.Phys.{Phys}
use Rattle.value_views.specs.Comparing.{Disagreement, disagreement_of}
use Rattle.value_views.specs.Laws.{FitsStream}
use Rattle.value_views.proofs.JoinLemmas.{agreeing-views-have_values}
use Rattle.cycle_trace.specs.Survey.{UnfinishedStream, first_unfinished}
use Rattle.cycle_trace.specs.Trace.{IsTrace, TraceText, cycles_of_stream, streams_of}
use Rattle.cycle_trace.specs.TraceText.{trace_of}
use Rattle.cycle_trace.specs.declared.fault.TraceFault.{TraceFault}
use Rattle.cycle_trace.proofs.FirstOfAll.{first_of_all}
use Rattle.cycle_trace.proofs.RowsLemmas.{length-owed_heads, owed_at, turn_below}
use Rattle.cycle_trace.proofs.StreamLemmas.{length-streams, stream_of_head, stream_with}
use Rattle.cycle_trace.proofs.TraceSpelling.{trace_of-some}
use Rattle.port_drive.specs.Drives.{head_of_stream, heads_of}
use Rattle.port_drive.specs.Laws.{done_on}
use Rattle.trace_decode.specs.Laws.{OneTextOutcome, SomeOutcome, SomeTextOutcome}
use Rattle.trace_decode.specs.Outcome.{AreViewsOf, Carried, DifferFirst, Disagrees, IsLegal, IsOutcome, IsViewOf, IsWhole, Offends, OtherHeader, Outcome, Unfinished, users_on}
use Rattle.trace_decode.specs.Standing.{CanDecode}
use Rattle.trace_decode.specs.Tags.{OffendsWithTags, element_at}
use Rattle.trace_decode.specs.Texts.{Misspelled, Spelled}
use Rattle.trace_decode.proofs.CycleLemmas.{row_there}
use Rattle.trace_decode.proofs.JoinLemmas.{carried, views_with_words}
use Rattle.trace_decode.proofs.KeepLemmas.{items-fit}
use Rattle.trace_decode.proofs.LawLemmas.{one_outcome}
use Rattle.trace_decode.proofs.OutcomeLemmas.{AreItems, HasForm, items_at}
use Rattle.trace_decode.proofs.RowLemmas.{same_some}
use Rattle.trace_decode.proofs.RunLemmas.{has_phys}
use Rattle.trace_decode.proofs.SeriesLemmas.{series_of_items}

-- ---- heads

-- two lists differ first at some place, or they are the same
pub differ_or_same : (one other : List Head) → ((place : ℕ) → DifferFirst one other place → ⊥) → (one ≡ other → ⊥) → ⊥
differ_or_same [] [] differ same = same refl
differ_or_same [] (y ∷ ys) differ same = differ 0 (record { same = refl; differ = λ e. cc })
differ_or_same (x ∷ xs) [] differ same = differ 0 (record { same = refl; differ = λ e. cc })
differ_or_same (x ∷ xs) (y ∷ ys) differ same =
    let go_on : x ≡ y → ⊥ = λ here.
    differ_or_same xs ys
    (λ place d. differ (suc place) (record { same = ap (λ (h : Head). h ∷ take place xs) here ∙ ap (λ (l : List Head). y ∷ l) d.same; differ = d.differ }))
    (λ rest. same (ap (λ (h : Head). h ∷ xs) here ∙ ap (λ (l : List Head). y ∷ l) rest)) in
    differ 0 (record { same = refl; differ = λ e. go_on (same_some e) })

-- ---- one thing for each place of two lists

-- a list with such a thing at each place
record IsChosen {A B C : Type 0} (R : A → B → C → Type 0) (xs : List A) (ys : List B) : Type 0 where
  chosen : List C
  many : length chosen ≡ length xs
  each : (i : ℕ) (x : A) (y : B) (z : C) → slice_get xs i ≡ Some x → slice_get ys i ≡ Some y → slice_get chosen i ≡ Some z → R x y z

choose : {A B C : Type 0} (R : A → B → C → Type 0) (xs : List A) (ys : List B) → length ys ≡ length xs
    → ((i : ℕ) (x : A) (y : B) → slice_get xs i ≡ Some x → slice_get ys i ≡ Some y → (z : C) × R x y z) → IsChosen R xs ys
choose R [] ys long some = record { chosen = []; many = refl; each = λ i x y z here there found. absurd cc }
choose R (x ∷ xs) [] long some = absurd (omega (arith, long))
choose {A} {B} {C} R (x ∷ xs) (y ∷ ys) long some =
    let first = some 0 x y refl refl in
    let rest = choose R xs ys (omega (arith, long)) (λ i a b here there. some (suc i) a b here there) in
    record { chosen = first.0 ∷ rest.chosen; many = ap suc rest.many; each = each first rest }
  where
    each : (first : (z : C) × R x y z) (rest : IsChosen R xs ys) (i : ℕ) (a : A) (b : B) (z : C) → slice_get (x ∷ xs) i ≡ Some a → slice_get (y ∷ ys) i ≡ Some b → slice_get (first.0 ∷ rest.chosen) i ≡ Some z → R a b z
    each first rest zero a b z here there found =
        subst (λ (k : A). R k b z) (same_some here) (subst (λ (k : B). R x k z) (same_some there) (subst (R x y) (same_some found) first.1))
    each first rest (suc i) a b z here there found = rest.each i a b z here there found

-- ---- the items of a trace

-- the items done are items of the stream, where each transfer that is shown fits it
done_fit : (p : Parameters) (cycles : List Cycle) → ((c : ℕ) (now : Cycle) (shown : Transfer) → slice_get cycles c ≡ Some now → now.shown ≡ Some shown → Fits p shown) → All (FitsStream p) (items_done p cycles)
done_fit p [] fits = All-nil (FitsStream p)
done_fit p (now ∷ more) fits =
    subst (All (FitsStream p)) (sym (ap (items_of_all p) (flat_map-cons done_in now more) ∙ flat_map-append (items_of p) (done_in now) (done_of more)))
    (All-append (FitsStream p) (items_of_all p (done_in now)) (items_done p more) (first now (λ shown is. fits 0 now shown refl is)) (done_fit p more (λ c x shown here is. fits (suc c) x shown here is)))
  where
    alone : (shown : Transfer) → Fits p shown → All (FitsStream p) (items_of_all p (shown ∷ []))
    alone shown fit = All-append (FitsStream p) (items_of p shown) [] (items-fit p shown fit) (All-nil (FitsStream p))

    first : (now : Cycle) → ((shown : Transfer) → now.shown ≡ Some shown → Fits p shown) → All (FitsStream p) (items_of_all p (done_in now))
    first now each = by_shown now.ready now.shown (λ shown is. each shown is)
      where
        by_shown : (ready : Bool) (shown : Option Transfer) → ((t : Transfer) → shown ≡ Some t → Fits p t) → All (FitsStream p) (items_of_all p (if ready then option_to_list shown else []))
        by_shown false shown fit = All-nil (FitsStream p)
        by_shown true None fit = All-nil (FitsStream p)
        by_shown true (Some t) fit = alone t (fit t refl)

closes_below : (p : Parameters) (some : List Item) → All (FitsStream p) some → All (ClosesBelow p.dims) some
closes_below p [] fit = All-nil (ClosesBelow p.dims)
closes_below p (items.Elem word ∷ more) fit = All-cons (ClosesBelow p.dims) (items.Elem word) more tt (closes_below p more (All-tail (FitsStream p) (items.Elem word) more fit))
closes_below p (items.Close dim ∷ more) fit =
    All-cons (ClosesBelow p.dims) (items.Close dim) more (All-head (FitsStream p) (items.Close dim) more fit) (closes_below p more (All-tail (FitsStream p) (items.Close dim) more fit))

-- the items of a stream, and the nests that they spell
record HasItems (split : PlainSplit) (i : ℕ) (phys : Phys) (some : List Item) : Type 0 where
  view : List nests.Tree
  is_view : IsViewOf phys view some
  items : AreItems phys.params.dims (element_at split i) some

-- nests that these items spell
abbrev spells : Phys → List Item → List nests.Tree → Type 0
spells phys some view = IsViewOf phys view some

module _ (split : PlainSplit) (can : CanDecode split) (t : TraceText) (is_trace : IsTrace t) (in_form : All IsHead t.heads) where
  head_in_form : (heads : List Head) → All IsHead heads → (s : ℕ) (head : Head) → slice_get heads s ≡ Some head → IsHead head
  head_in_form [] all s head there = absurd cc
  head_in_form (first ∷ more) all zero head there = subst IsHead (same_some there) (All-head IsHead first more all)
  head_in_form (first ∷ more) all (suc s) head there = head_in_form more (All-tail IsHead first more all) s head there

  rows_many : length t.rows ≡ t.cycles * length t.heads
  rows_many = is_trace.shown.many ∙ length-owed_heads t

  form : HasForm t
  form = record { most = omega (arith, rows_many); level = λ s head there. (head_in_form t.heads in_form s head there).level }

  -- a transfer that is shown fits its stream
  shown_fits : (s : ℕ) (head : Head) → slice_get t.heads s ≡ Some head → (c : ℕ) (now : Cycle) (shown : Transfer) → slice_get (cycles_of_stream t s) c ≡ Some now → now.shown ≡ Some shown → Fits head.params shown
  shown_fits s head there c now shown here is =
      let row = row_there t s c now t.cycles here in
      let inside = slice_get_within t.rows (c * length t.heads + s) now row in
      let in_cycles : c < t.cycles = turn_below t.cycles (length t.heads) c s (c * length t.heads + s) refl (omega (arith, inside, rows_many)) in
      (is_trace.shown.each (c * length t.heads + s) head.params now shown (owed_at t.heads t.cycles c s head there in_cycles) row is).fits

  module _ (whole : IsWhole split t) where
    heads_many : length t.heads ≡ length split.streams
    heads_many = ap length whole.legal.heads ∙ length-map split.streams head_of_stream

    items_here : (i : ℕ) (phys : Phys) (some : List Item) → slice_get split.streams i ≡ Some phys → slice_get (done_on (streams_of t)) i ≡ Some some → HasItems split i phys some
    items_here i phys some there here =
        let head = slice_get-there t.heads i (omega (arith, slice_get_within split.streams i phys there, heads_many)) in
        let stream = stream_of_head t i ∙ ap (option_map (stream_with t i)) head.1 in
        let same_items : items_done head.0.params (cycles_of_stream t i) ≡ some =
        same_some (sym (slice_get-map (λ (s : StreamTrace). items_done s.params s.cycles) (streams_of t) i ∙ ap (option_map (λ (s : StreamTrace). items_done s.params s.cycles)) stream) ∙ here) in
        let at = has_phys split t.heads i head.0 whole.legal.heads head.1 in
        let same_phys : at.phys ≡ phys = same_some (sym at.there ∙ there) in
        let is_head : head.0 ≡ head_of_stream phys = at.is ∙ ap head_of_stream same_phys in
        let params : head.0.params ≡ phys.params = ap (λ (h : Head). h.params) is_head in
        let fit = done_fit head.0.params (cycles_of_stream t i) (shown_fits i head.0 head.1) in
        let items = items_at split can.port t form whole i phys head.0 there head.1 is_head fit in
        let below = subst (λ (p : Parameters). All (ClosesBelow p.dims) (items_done head.0.params (cycles_of_stream t i))) params (closes_below head.0.params (items_done head.0.params (cycles_of_stream t i)) fit) in
        let series = series_of_items phys.params.dims (items_done head.0.params (cycles_of_stream t i)) below items.nested items.whole in
        let same : plain_nests series.0 ≡ trees_of (map plain series.0) = sym (trees_of-map series.0) in
        subst (HasItems split i phys) same_items
        (record {
          view = map plain series.0;
          is_view = record { depth = subst (HaveDepth phys.params.dims) same series.1.depth; flat_is = ap (flat_all phys.params.dims) (sym same) ∙ series.1.spelled };
          items = items;
        })

    lists : length (done_on (streams_of t)) ≡ length split.streams
    lists = length-map (streams_of t) (λ (s : StreamTrace). items_done s.params s.cycles) ∙ length-streams t 0 t.heads ∙ heads_many

    chosen : IsChosen spells split.streams (done_on (streams_of t))
    chosen = choose spells split.streams (done_on (streams_of t)) lists (λ i phys some there here. let at = items_here i phys some there here in (at.view, at.is_view))

    spelled : AreViewsOf split chosen.chosen (done_on (streams_of t))
    spelled = record { many = chosen.many; lists = lists; each = λ i phys view some there found here. chosen.each i phys some view there here found }

    -- the views are those of one value, or they disagree
    joined_or_not : ((outcome : Outcome) → IsOutcome split t outcome → ⊥) → ⊥
    joined_or_not none = by_place (disagreement_of split chosen.chosen) refl
      where
        by_place : (place : Option Disagreement) → disagreement_of split chosen.chosen ≡ place → ⊥
        by_place (Some place) is = none (Disagrees place) (whole, record { views = chosen.chosen; spelled = spelled; first = is })
        by_place None is =
            let views = views_with_words split can.port (done_on (streams_of t)) chosen.chosen spelled (λ i phys some there here. (items_here i phys some there here).items.words) in
            let some = agreeing-views-have_values split can.port can.carried chosen.chosen views is in
            none (Carried some.roots (users_on (streams_of t))) (whole, (carried split can.port (done_on (streams_of t)) chosen.chosen spelled some.roots some.has, refl))

  -- a trace that is legal ends whole or does not
  ended_or_not : ((outcome : Outcome) → IsOutcome split t outcome → ⊥) → IsLegal split t → ⊥
  ended_or_not none legal = by_end (first_unfinished 0 (streams_of t)) refl
    where
      by_end : (first : Option UnfinishedStream) → first_unfinished 0 (streams_of t) ≡ first → ⊥
      by_end (Some first) is = none (Unfinished first) (legal, is)
      by_end None is = joined_or_not (record { legal = legal; ends = is }) none

  -- a trace with the heads of the split is legal or has a first offence
  legal_or_not : ((outcome : Outcome) → IsOutcome split t outcome → ⊥) → t.heads ≡ heads_of split → ⊥
  legal_or_not none heads = first_of_all (OffendsWithTags split t) by_first
    where
      by_first : (first : Option Offence) → IsFirst (OffendsWithTags split t) first → ⊥
      by_first (Some first) is = none (Offends first) (heads, is)
      by_first None is = ended_or_not none (record { heads = heads; first = is })

pub some_outcome : SomeOutcome
some_outcome split can t is_trace in_form none = differ_or_same t.heads (heads_of split) (λ place differ. none (OtherHeader place) differ) (legal_or_not split can t is_trace in_form none)

-- ---- texts

pub some_text_outcome : SomeTextOutcome
some_text_outcome split can bytes none = by_read (trace_of bytes) refl
  where
    by_read : (read : Result TraceText TraceFault) → trace_of bytes ≡ read → ⊥
    by_read (Err fault) is = none (Misspelled fault) is
    by_read (Ok t) is =
        let told = trace_of-some bytes t is in
        some_outcome split can t told.0 told.2 (λ outcome says. none (Spelled outcome) (t, (is, says)))

pub one_text_outcome : OneTextOutcome
one_text_outcome split can bytes (Misspelled fault) (Misspelled other) a b = ap Misspelled (same_fault (sym a ∙ b))
  where
    same_fault : ◌≡◌ {A = Result TraceText TraceFault} (Err fault) (Err other) → fault ≡ other
    same_fault is = cc
one_text_outcome split can bytes (Misspelled fault) (Spelled outcome) a b = let said = sym a ∙ b.1.0 in absurd cc
one_text_outcome split can bytes (Spelled outcome) (Misspelled fault) a b = let said = sym b ∙ a.1.0 in absurd cc
one_text_outcome split can bytes (Spelled outcome) (Spelled other) a b =
    let same : a.0 ≡ b.0 = same_trace (sym a.1.0 ∙ b.1.0) in
    ap Spelled (one_outcome split can b.0 outcome other (subst (λ (t : TraceText). IsOutcome split t outcome) same a.1.1) b.1.1)
  where
    same_trace : {one two : TraceText} → ◌≡◌ {A = Result TraceText TraceFault} (Ok one) (Ok two) → one ≡ two
    same_trace is = cc
