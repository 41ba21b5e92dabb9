-- The rows that drive a port with a value carry it, by rule 11 too; and rule 11 at other levels.
use Rattle.std.proofs.Common.{◌≡◌, ◌∙◌, ◌⊎◌, inl, inr, ℕ, zero, suc, ◌+◌, ◌-◌, ◌<◌, ◌≤◌, Bool, true, false, if◌then◌else◌, List, [], ◌∷◌, ◌++◌, length, take, Option, Some, None, All, is_some, slice_get, refl, sym, ap, subst, arith, append-nil}
use Rattle.std.specs.Prelude.{option_map}
use Rattle.std.specs.Option.{option_to_list}
use Rattle.std.proofs.Math.Seq.{take-suc}
use Rattle.std.proofs.lemmas.Bool.{cases_lt}
use Rattle.std.proofs.lemmas.Grind.{flat_map-append}
use Rattle.std.proofs.lemmas.List.{take_all}
use Rattle.std.proofs.lemmas.List.Concat.{flat_map-cons}
use Rattle.std.proofs.lemmas.List.Elements.{All-append, All-cons, All-contains, All-nil}
use Rattle.std.proofs.lemmas.Option.{get_or_from_slice_get, slice_get-map, slice_get_within}
use Rattle.tydi_base.specs.Level.{LevelNumbers, number_of}
use Rattle.tydi_base.proofs.PlaceLemmas.{slice_get-there}
use Rattle.physical_stream.specs.Params.{Parameters}
use Rattle.physical_stream.specs.Signals.{has_user}
use Rattle.physical_stream.specs.Cycles.{Cycle, StreamTrace, done_in, done_of, items_done, waiting_of}
use Rattle.physical_stream.specs.Items.{items_of, items_of_all}
use Rattle.physical_stream.specs.Breaks.{Breaks, BreaksAfter, OnShown}
use Rattle.physical_stream.specs.Ending.{ending_after, ending_of}
use Rattle.physical_stream.specs.First.{Offence}
use Rattle.physical_stream.specs.Levels.{at_level}
use Rattle.physical_stream.specs.Shape.{tail_of}
use Rattle.physical_stream.specs.declared.end.End.{End}
use Rattle.physical_stream.specs.declared.end.End.TheVariants as ends
use Rattle.physical_stream.specs.declared.item.Item.{Item}
use Rattle.physical_stream.specs.declared.item.Item.TheVariants as items
use Rattle.physical_stream.specs.declared.rule.Rule.{Rule}
use Rattle.physical_stream.specs.declared.rule.Rule.TheVariants.{Hold, Index, LaneLast, Strobe, Start, End as Ends, Empty, InnerPause, OuterPause, Nest, Tag}
use Rattle.physical_stream.specs.declared.transfer.Transfer.{Transfer}
use Rattle.complexity_rules.specs.Levels.{AreRaised, BreaksBelow, IsRaised}
use Rattle.complexity_rules.proofs.CheckerLemmas.{waiting_of-one_more}
use Rattle.complexity_rules.proofs.LevelLemmas.{offences_fall_by, rules_break_below}
use Rattle.logical_types.specs.Tree.{Ltype}
use Rattle.nest_shape.specs.Flat.{flat, flat_all}
use Rattle.nest_shape.specs.Tree.{leaf, list, list_of, trees_of}
use Rattle.nest_shape.specs.Tree as nests
use Rattle.nest_shape.proofs.PlainLemmas.{trees_of-list_of}
use Rattle.type_split.specs.Streams.{IsPortSplit, PlainSplit}
use Rattle.type_split.specs.declared.split.Phys.{Phys}
use Rattle.logical_value.specs.Agreement.{Agrees}
use Rattle.logical_value.specs.Tree.{Tree, members}
use Rattle.value_views.specs.Series.{NodeSeries, series_of_nodes}
use Rattle.value_views.specs.Views.{AgreesAt, Carries, EachPair, SpellsNode}
use Rattle.value_views.proofs.FitsLemmas.{nodes-have-series}
use Rattle.value_views.proofs.NodeLemmas.{has-node}
use Rattle.cycle_trace.specs.Survey.{first_unfinished, or_unfinished}
use Rattle.cycle_trace.specs.Trace.{TraceText, streams_of}
use Rattle.cycle_trace.proofs.StreamLemmas.{head_at}
use Rattle.handshake.specs.Rows.{StreamRun}
use Rattle.plan_text.specs.declared.plan.Plan.{Plan}
use Rattle.port_drive.specs.Laws.{IsDriven, IsLegalStream, done_on, trace_of}
use Rattle.port_drive.proofs.DrivenLemmas.{is-driven}
use Rattle.trace_decode.specs.Laws.{DrivenIsCarried, OffencesFallWithTags}
use Rattle.trace_decode.specs.Outcome.{Carried, IsOutcome, users_done, users_of, users_on}
use Rattle.trace_decode.specs.Standing.{CanDecode}
use Rattle.trace_decode.specs.Tags.{BreaksTag, BreaksTagAfter, BreaksWithTags, OffendsWithTags, element_at, element_of_node, element_of_stream}
use Rattle.trace_decode.proofs.JoinLemmas.{all_back, all_front, pair_at}
use Rattle.trace_decode.proofs.OutcomeLemmas.{of_tag}
use Rattle.trace_decode.proofs.RowLemmas.{same_some}
use Rattle.trace_decode.proofs.RunLemmas.{has_phys}

-- ---- items that agree with values

-- an element agrees with some value
abbrev AgreesSome : Ltype → Item → Type 0
AgreesSome element (items.Elem word) = (value : Tree) × Agrees element word value
AgreesSome element (items.Close dim) = Unit {0}

pairs_agree : (element : Ltype) (depth : ℕ) → ((word : nests.Tree) (value : Tree) → AgreesAt element depth word value → All (AgreesSome element) (flat depth word)) → (words : List nests.Tree) (values : List Tree)
    → EachPair (AgreesAt element depth) words values → All (AgreesSome element) (flat_all depth (trees_of words))
pairs_agree element depth each [] values pairs = All-nil (AgreesSome element)
pairs_agree element depth each (word ∷ words) [] pairs = absurd pairs
pairs_agree element depth each (word ∷ words) (value ∷ values) pairs =
    All-append (AgreesSome element) (flat depth word) (flat_all depth (trees_of words)) (each word value pairs.0) (pairs_agree element depth each words values pairs.1)

one_less : (depth : ℕ) → depth ≡ suc depth - 1
one_less depth = omega arith

flat_agrees : (element : Ltype) (depth : ℕ) (word : nests.Tree) (value : Tree) → AgreesAt element depth word value → All (AgreesSome element) (flat depth word)
flat_agrees element zero (leaf bits) value agrees = All-cons (AgreesSome element) (items.Elem bits) [] (value, agrees.1) (All-nil (AgreesSome element))
flat_agrees element zero (list parts) value agrees = absurd agrees
flat_agrees element (suc depth) (leaf bits) value agrees = absurd agrees
flat_agrees element (suc depth) (list parts) value agrees =
    All-append (AgreesSome element) (flat_all (suc depth - 1) parts) (items.Close (suc depth - 1) ∷ [])
    (subst (λ (d : ℕ). All (AgreesSome element) (flat_all d parts)) (one_less depth)
    (subst (λ (p : nests.Trees). All (AgreesSome element) (flat_all depth p)) (trees_of-list_of parts) (pairs_agree element depth (flat_agrees element depth) (list_of parts) (members value) agrees)))
    (All-cons (AgreesSome element) (items.Close (suc depth - 1)) [] tt (All-nil (AgreesSome element)))

-- the items of a stream that carry a value
items_agree : (split : PlainSplit) → IsPortSplit split → (roots : List (List Tree)) (done : List (List Item)) → Carries split roots done → (i : ℕ) (phys : Phys) (some : List Item) → slice_get split.streams i ≡ Some phys
    → slice_get done i ≡ Some some → All (AgreesSome (element_at split i)) some
items_agree split port roots done carries i phys some there here =
    let spells = pair_at (SpellsNode (series_of_nodes split.nodes roots)) split.streams done carries.spelled i phys some there here in
    let node = has-node split port i phys there in
    let series = nodes-have-series split port roots carries.fits phys.node node.node node.found in
    let same : series.at ≡ spells.node = same_some (sym series.found ∙ spells.found) in
    let element : spells.node.element ≡ element_at split i =
    ap (λ (n : NodeSeries). n.element) (sym same) ∙ series.element ∙ sym (ap (element_of_stream split.nodes) there ∙ ap element_of_node node.found) in
    let all = pairs_agree spells.node.element spells.node.dims (flat_agrees spells.node.element spells.node.dims) spells.spelled.words spells.node.series spells.spelled.agree in
    subst (λ (e : Ltype). All (AgreesSome e) some) element (subst (All (AgreesSome spells.node.element)) (sym spells.spelled.flat_is) all)

-- ---- each transfer that is shown is done, where a stream keeps the rule on waiting transfers and does not end in one

-- the items of the transfer done in a cycle are among the items done
done_here : (P : Item → Type 0) (p : Parameters) (cycles : List Cycle) → All P (items_done p cycles) → (c : ℕ) (now : Cycle) → slice_get cycles c ≡ Some now → All P (items_of_all p (done_in now))
done_here P p [] all c now here = cc
done_here P p (x ∷ cycles) all c now here = by_place c here (λ k found. done_here P p cycles rest k now found)
  where
    split_all : All P (items_of_all p (done_in x) ++ items_done p cycles)
    split_all = subst (All P) (ap (λ (ts : List Transfer). items_of_all p ts) (flat_map-cons done_in x cycles) ∙ flat_map-append (items_of p) (done_in x) (done_of cycles)) all

    rest : All P (items_done p cycles)
    rest = all_back P (items_of_all p (done_in x)) (items_done p cycles) split_all

    by_place : (c : ℕ) → slice_get (x ∷ cycles) c ≡ Some now → ((k : ℕ) → slice_get cycles k ≡ Some now → All P (items_of_all p (done_in now))) → All P (items_of_all p (done_in now))
    by_place zero here more = let same : x ≡ now = same_some here in subst (λ (y : Cycle). All P (items_of_all p (done_in y))) same (all_front P (items_of_all p (done_in x)) (items_done p cycles) split_all)
    by_place (suc k) here more = more k here

module _ (element : Ltype) (p : Parameters) (cycles : List Cycle) (hold : (number : ℕ) → Breaks Hold p cycles number → ⊥) (ends_so : waiting_of cycles ≡ None) (binds : number_of p.level ≤ 8)
    (all : All (AgreesSome element) (items_done p cycles)) where
  not_broken : (t : Transfer) → BreaksTag element p t → All (AgreesSome element) (items_of_all p (t ∷ [])) → ⊥
  not_broken t broken agree =
      let some = All-contains (AgreesSome element) (items_of p t) (items.Elem broken.word) (subst (All (AgreesSome element)) (append-nil (items_of p t)) agree) broken.shown in
      broken.agrees_with_none some.0 some.1

  pub tags_kept : (left c : ℕ) → c + left ≡ length cycles → (now : Cycle) → slice_get cycles c ≡ Some now → (t : Transfer) → now.shown ≡ Some t → BreaksTag element p t → ⊥
  tags_kept zero c end now here t shown broken = absurd (omega (arith, slice_get_within cycles c now here))
  tags_kept (suc left) c end now here t shown broken = by_ready now.ready refl (λ next found again. tags_kept left (suc c) (omega arith) next found t again broken)
    where
      inside : c < length cycles
      inside = slice_get_within cycles c now here

      up_to : take (suc c) cycles ≡ take c cycles ++ now ∷ []
      up_to = take-suc cycles c now inside ∙ ap (λ (x : Cycle). take c cycles ++ x ∷ []) (get_or_from_slice_get cycles c now now here)

      by_ready : (ready : Bool) → now.ready ≡ ready → ((next : Cycle) → slice_get cycles (suc c) ≡ Some next → next.shown ≡ Some t → ⊥) → ⊥
      by_ready true is later =
          let done : done_in now ≡ t ∷ [] = ap (λ (b : Bool). if b then option_to_list now.shown else []) is ∙ ap option_to_list shown in
          not_broken t broken (subst (λ (ts : List Transfer). All (AgreesSome element) (items_of_all p ts)) done (done_here (AgreesSome element) p cycles all c now here))
      by_ready false is later = by_cases (cases_lt (suc c) (length cycles))
        where
          waits : waiting_of (take (suc c) cycles) ≡ Some t
          waits = ap waiting_of up_to ∙ waiting_of-one_more (take c cycles) now ∙ ap (λ (b : Bool). if b then None else now.shown) is ∙ shown

          by_cases : (suc c < length cycles) ⊎ (length cycles ≤ suc c) → ⊥
          by_cases (inr past) = let said = sym (ap waiting_of (take_all (suc c) cycles past)) ∙ waits in let none = sym ends_so ∙ said in cc
          by_cases (inl more) =
              let next = slice_get-there cycles (suc c) more in
              hold (suc c) (record { now = next.0; stands = next.1; broken = (binds, record { offered = t; waits = waits; changed = λ again. later next.0 next.1 again }) })

not_pending : (p : Parameters) (cycles : List Cycle) → ending_of p cycles ≡ ends.Whole → waiting_of cycles ≡ None
not_pending p cycles whole = by_waiting (waiting_of cycles) whole
  where
    by_waiting : (waits : Option Transfer) → (if is_some waits then ends.Pending else ending_after p.dims (tail_of (items_done p cycles))) ≡ ends.Whole → waits ≡ None
    by_waiting None is = refl
    by_waiting (Some t) is = cc

none_unfinished : (number : ℕ) (streams : List StreamTrace) → ((i : ℕ) (s : StreamTrace) → slice_get streams i ≡ Some s → ending_of s.params s.cycles ≡ ends.Whole) → first_unfinished number streams ≡ None
none_unfinished number [] each = refl
none_unfinished number (s ∷ streams) each =
    ap (λ (e : End). or_unfinished number e (first_unfinished (suc number) streams)) (each zero s refl) ∙ none_unfinished (suc number) streams (λ i x here. each (suc i) x here)

-- the rule on tags binds up to level 8
level_bound : (rule : Rule) (element : Ltype) (p : Parameters) (before : List Cycle) (now : Cycle) → BreaksTagAfter element rule p before now → number_of p.level ≤ 8
level_bound Tag element p before now broken = broken.0
level_bound Hold element p before now broken = absurd broken
level_bound Index element p before now broken = absurd broken
level_bound LaneLast element p before now broken = absurd broken
level_bound Strobe element p before now broken = absurd broken
level_bound Start element p before now broken = absurd broken
level_bound Ends element p before now broken = absurd broken
level_bound Empty element p before now broken = absurd broken
level_bound InnerPause element p before now broken = absurd broken
level_bound OuterPause element p before now broken = absurd broken
level_bound Nest element p before now broken = absurd broken

-- ---- driven ports

module _ (split : PlainSplit) (can : CanDecode split) (value : List (List Tree)) (plan : Plan) (runs : List StreamRun) (driven : IsDriven split value plan runs) where
  abbrev t : TraceText
  t = trace_of split plan.cycles runs

  shown_tag : (element : Ltype) (p : Parameters) (shown : Option Transfer) → OnShown (BreaksTag element p) shown → (one : Transfer) × ((shown ≡ Some one) × BreaksTag element p one)
  shown_tag element p None broken = absurd broken
  shown_tag element p (Some one) broken = (one, (refl, broken))

  no_offence : (o : Offence) → OffendsWithTags split t o → ⊥
  no_offence o offends = by_rule offends.breaks.broken
    where
      legal : IsLegalStream offends.trace
      legal = driven.legal o.stream offends.trace offends.stands

      by_rule : BreaksAfter o.rule offends.trace.params (take o.cycle offends.trace.cycles) offends.breaks.now
          ⊎ BreaksTagAfter (element_at split o.stream) o.rule offends.trace.params (take o.cycle offends.trace.cycles) offends.breaks.now → ⊥
      by_rule (inl broken) = legal.legal o.rule o.cycle (record { now = offends.breaks.now; stands = offends.breaks.stands; broken = broken })
      by_rule (inr broken) =
          let tag = of_tag o.rule (element_at split o.stream) offends.trace.params (take o.cycle offends.trace.cycles) offends.breaks.now broken in
          let bound : number_of offends.trace.params.level ≤ 8 = level_bound o.rule (element_at split o.stream) offends.trace.params (take o.cycle offends.trace.cycles) offends.breaks.now broken in
          let one = shown_tag (element_at split o.stream) offends.trace.params offends.breaks.now.shown tag.1 in
          let head = head_at t o.stream offends.trace offends.stands in
          let phys = has_phys split t.heads o.stream head.0 refl head.1 in
          let done : slice_get (done_on (streams_of t)) o.stream ≡ Some (items_done offends.trace.params offends.trace.cycles) =
          slice_get-map (λ (s : StreamTrace). items_done s.params s.cycles) (streams_of t) o.stream ∙ ap (option_map (λ (s : StreamTrace). items_done s.params s.cycles)) offends.stands in
          let agree = items_agree split can.port value (done_on (streams_of t)) driven.carries o.stream phys.phys (items_done offends.trace.params offends.trace.cycles) phys.there done in
          let inside = slice_get_within offends.trace.cycles o.cycle offends.breaks.now offends.breaks.stands in
          tags_kept (element_at split o.stream) offends.trace.params offends.trace.cycles (λ number b. legal.legal Hold number b) (not_pending offends.trace.params offends.trace.cycles legal.whole) bound agree
          (length offends.trace.cycles - o.cycle) o.cycle (omega (arith, inside)) offends.breaks.now offends.breaks.stands one.0 one.1.0 one.1.1

  pub is_carried : IsOutcome split t (Carried value (users_on (streams_of t)))
  is_carried = (
    record { legal = record { heads = refl; first = no_offence }; ends = none_unfinished 0 (streams_of t) (λ i s here. (driven.legal i s here).whole) },
    (driven.carries, refl),
  )

pub driven_is_carried : DrivenIsCarried
driven_is_carried split can value plan runs drivable drives = is_carried split can value plan runs (is-driven split value plan runs drivable drives)

-- ---- levels

tag-at_level : (element : Ltype) (level : LevelNumbers) (p : Parameters) (shown : Option Transfer) → OnShown (BreaksTag element (at_level level p)) shown → OnShown (BreaksTag element p) shown
tag-at_level element level p None broken = broken
tag-at_level element level p (Some t) broken = record { word = broken.word; shown = broken.shown; agrees_with_none = broken.agrees_with_none }

tags_break_below : (element : Ltype) → BreaksBelow (BreaksWithTags element)
tags_break_below element rule level p before now higher (inl broken) = inl (rules_break_below rule level p before now higher broken)
tags_break_below element rule level p before now higher (inr broken) =
    let tag = of_tag rule element (at_level level p) before now broken in
    let bound : number_of level ≤ 8 = level_bound rule element (at_level level p) before now broken in
    inr (subst (λ (r : Rule). BreaksTagAfter element r p before now) (sym tag.0) (omega arith, tag-at_level element level p now.shown tag.1))

pub offences_fall_with_tags : OffencesFallWithTags
offences_fall_with_tags split = offences_fall_by (λ stream. BreaksWithTags (element_at split stream)) (λ stream. tags_break_below (element_at split stream))

-- the user words of a stream do not depend on its level
users_of-stay : (low high : StreamTrace) → IsRaised low high → users_of high ≡ users_of low
users_of-stay low high raised =
    ap (λ (p : Parameters). if has_user p then users_done high.cycles else []) raised.params
    ∙ ap (λ (cycles : List Cycle). if has_user low.params then users_done cycles else []) raised.cycles

pub users_on-stay : (lows highs : List StreamTrace) → AreRaised lows highs → users_on highs ≡ users_on lows
users_on-stay [] [] raised = refl
users_on-stay [] (high ∷ highs) raised = absurd (omega (arith, raised.many))
users_on-stay (low ∷ lows) [] raised = absurd (omega (arith, raised.many))
users_on-stay (low ∷ lows) (high ∷ highs) raised =
    ap (λ (words : List (List Bool)). words ∷ users_on highs) (users_of-stay low high (raised.each 0 low high refl refl))
    ∙ ap (λ (l : List (List (List Bool))). users_of low ∷ l) (users_on-stay lows highs rest)
  where
    rest : AreRaised lows highs
    rest = record { many = omega (arith, raised.many); each = λ stream a b here there. raised.each (suc stream) a b here there }
