-- The laws of values that are carried, from the laws of traces that are carried and of offences.
use Rattle.std.proofs.Common.{◌≡◌, ◌∙◌, ◌↔◌, ℕ, suc, inl, inr, false, Bool, List, [], ◌∷◌, map, take, Option, Some, None, option_map, refl, sym, ap, subst}
use Rattle.std.proofs.Common.{arith}
use Rattle.std.specs.List.{slice_get}
use Rattle.std.proofs.lemmas.Option.{slice_get-map}
use Rattle.physical_stream.specs.Breaks.{OnShown}
use Rattle.physical_stream.specs.Cycles.{Cycle, StreamTrace, items_done}
use Rattle.physical_stream.specs.First.{IsFirst, Offence}
use Rattle.physical_stream.specs.Params.{Parameters}
use Rattle.physical_stream.specs.declared.head.Head.{Head}
use Rattle.physical_stream.specs.declared.item.Item.{Item}
use Rattle.physical_stream.specs.declared.rule.Rule.{Rule}
use Rattle.physical_stream.specs.declared.rule.Rule.TheVariants as rules
use Rattle.physical_stream.specs.declared.transfer.Transfer.{Transfer}
use Rattle.complexity_rules.specs.Levels.{AreRaised}
use Rattle.logical_types.specs.Tree.{Ltype}
use Rattle.type_split.specs.Nodes.{StreamNode}
use Rattle.type_split.specs.Streams.{PlainSplit, split_of}
use Rattle.type_split.specs.declared.split.Phys.{Phys}
use Rattle.logical_value.specs.Agreement.{Agrees}
use Rattle.logical_value.specs.Tree.{Tree}
use Rattle.value_views.specs.Views.{Carries}
use Rattle.cycle_trace.specs.Survey.{first_unfinished}
use Rattle.cycle_trace.specs.Surveying.{offends_in}
use Rattle.cycle_trace.specs.Trace.{IsTrace, TraceText, streams_of}
use Rattle.port_drive.specs.Laws.{done_on}
use Rattle.trace_decode.specs.Laws.{OffencesFallWithTags}
use Rattle.trace_decode.specs.Outcome.{Carried, IsOutcome}
use Rattle.trace_decode.specs.Tags.{BreaksTag, BreaksTagAfter, BreaksWithTags, OffendsWithTags, element_at, element_of_node, element_of_stream}
use Rattle.trace_decode.proofs.DrivenLemmas.{users_on-stay}
use Rattle.link_check.specs.Carry.{AreAlike, LevelsRise, heads_of_port, heads_to}
use Rattle.link_check.specs.CarryLaws.{CanCarry, CarriedEndingsStay, CarriedStreamsRise, CarriedStreamsStay, CarriedTracesStand, CarriedTracesStayLegal}
use Rattle.link_check.specs.CarryLaws.{CompatiblePortsRise, IsSameStream}
use Rattle.carried_values.specs.Laws.{Arrives, ArrivesWhole, HaveOneLevelBack, TracesArriveWhole}
use Rattle.carried_values.specs.WithoutLevels.{without_levels}
use Rattle.carried_values.proofs.CompatibleLemmas.{types_are_one}
use Rattle.carried_values.proofs.HeadLemmas.{port-heads}
use Rattle.carried_values.proofs.SeriesLemmas.{carries-stay, phys_without, split-stays, split_without}
use Rattle.carried_values.proofs.TypeLemmas.{node_without}
use Rattle.carried_values.proofs.WordLemmas.{agrees-with, agrees-without}

-- ---- the same items

raised-rest : (low high : StreamTrace) (lows highs : List StreamTrace) → AreRaised (low ∷ lows) (high ∷ highs) → AreRaised lows highs
raised-rest low high lows highs raised = record { many = omega (arith, raised.many); each = λ stream a b here there. raised.each (suc stream) a b here there }

done-stays : (lows highs : List StreamTrace) → AreRaised lows highs → done_on highs ≡ done_on lows
done-stays [] [] raised = refl
done-stays [] (high ∷ highs) raised = absurd (omega (arith, raised.many))
done-stays (low ∷ lows) [] raised = absurd (omega (arith, raised.many))
done-stays (low ∷ lows) (high ∷ highs) raised =
    let one = raised.each 0 low high refl refl in
    ap (λ (items : List Item). items ∷ done_on highs) (ap (λ (p : Parameters). items_done p high.cycles) one.params ∙ ap (items_done low.params) one.cycles)
    ∙ ap (λ (l : List (List Item)). items_done low.params low.cycles ∷ l) (done-stays lows highs (raised-rest low high lows highs raised))

-- ---- tags

node-element : (node : Option StreamNode) → element_of_node (option_map node_without node) ≡ without_levels (element_of_node node)
node-element None = refl
node-element (Some node) = refl

stream-element : (nodes : List StreamNode) (phys : Option Phys)
    → element_of_stream (map node_without nodes) (option_map phys_without phys) ≡ without_levels (element_of_stream nodes phys)
stream-element nodes None = refl
stream-element nodes (Some phys) = ap element_of_node (slice_get-map node_without nodes phys.node) ∙ node-element (slice_get nodes phys.node)

element-stays : (split : PlainSplit) (stream : ℕ) → element_at (split_without split) stream ≡ without_levels (element_at split stream)
element-stays split stream = ap (element_of_stream (map node_without split.nodes)) (slice_get-map phys_without split.streams stream)
    ∙ stream-element split.nodes (slice_get split.streams stream)

same-element : (source sink : Ltype) → without_levels source ≡ without_levels sink → (stream : ℕ)
    → without_levels (element_at (split_of source) stream) ≡ without_levels (element_at (split_of sink) stream)
same-element source sink same stream =
    sym (element-stays (split_of source) stream)
    ∙ ap (λ (split : PlainSplit). element_at split stream) (sym (split-stays source) ∙ ap split_of same ∙ split-stays sink)
    ∙ element-stays (split_of sink) stream

module _ (here there : Ltype) (same : without_levels here ≡ without_levels there) where
  tag-back : (p : Parameters) (t : Transfer) → BreaksTag there p t → BreaksTag here p t
  tag-back p t breaks = record {
    word = breaks.word;
    shown = breaks.shown;
    agrees_with_none = λ value agrees. breaks.agrees_with_none value
        (agrees-with there breaks.word value (subst (λ (l : Ltype). Agrees l breaks.word value) same (agrees-without here breaks.word value agrees)));
  }

  shown-back : (p : Parameters) (shown : Option Transfer) → OnShown (BreaksTag there p) shown → OnShown (BreaksTag here p) shown
  shown-back p None breaks = breaks
  shown-back p (Some t) breaks = tag-back p t breaks

  after-back : (rule : Rule) (p : Parameters) (before : List Cycle) (now : Cycle) → BreaksTagAfter there rule p before now
      → BreaksTagAfter here rule p before now
  after-back rules.Hold p before now breaks = breaks
  after-back rules.Index p before now breaks = breaks
  after-back rules.LaneLast p before now breaks = breaks
  after-back rules.Strobe p before now breaks = breaks
  after-back rules.Start p before now breaks = breaks
  after-back rules.End p before now breaks = breaks
  after-back rules.Empty p before now breaks = breaks
  after-back rules.InnerPause p before now breaks = breaks
  after-back rules.OuterPause p before now breaks = breaks
  after-back rules.Nest p before now breaks = breaks
  after-back rules.Tag p before now breaks = (breaks.0, shown-back p now.shown breaks.1)

  breaks-back : (rule : Rule) (p : Parameters) (before : List Cycle) (now : Cycle) → BreaksWithTags there rule p before now
      → BreaksWithTags here rule p before now
  breaks-back rule p before now (inl breaks) = inl breaks
  breaks-back rule p before now (inr breaks) = inr (after-back rule p before now breaks)

-- what offends by the one type offends by the other
offends-back : (source sink : Ltype) → without_levels source ≡ without_levels sink → (t : TraceText) (o : Offence) → OffendsWithTags (split_of sink) t o
    → OffendsWithTags (split_of source) t o
offends-back source sink same t o offends = record {
  trace = offends.trace;
  stands = offends.stands;
  breaks = record {
    now = offends.breaks.now;
    stands = offends.breaks.stands;
    broken = breaks-back (element_at (split_of source) o.stream) (element_at (split_of sink) o.stream) (same-element source sink same o.stream)
        o.rule offends.trace.params (take o.cycle offends.trace.cycles) offends.breaks.now offends.breaks.broken;
  };
}

-- ---- the laws

module _ (rise : CarriedStreamsRise) (ports : CompatiblePortsRise) (source sink : Ltype) (t arrived : TraceText) (at : Arrives source sink t arrived) where
  abbrev arriving : List Head
  arriving = heads_to (heads_of_port source) (heads_of_port sink)

  can : CanCarry t arriving
  can = record {
    trace = at.trace;
    alike = subst (λ (h : List Head). AreAlike h arriving) (sym at.from) (ports source sink at.compatible).alike;
    rise = subst (λ (h : List Head). LevelsRise h arriving) (sym at.from) (ports source sink at.compatible).rise;
  }

  raised : AreRaised (streams_of t) (streams_of arrived)
  raised = subst (λ (a : TraceText). AreRaised (streams_of t) (streams_of a)) (sym at.to) (rise t arriving can)

  same : without_levels source ≡ without_levels sink
  same = types_are_one false source sink at.compatible

  by-types : (roots : List (List Tree)) (done : List (List Item)) → Carries (split_of source) roots done ↔ Carries (split_of sink) roots done
  by-types roots done = (
    λ carries. (carries-stay sink roots done).0 (subst (λ (l : Ltype). Carries (split_of l) roots done) same ((carries-stay source roots done).1 carries)),
    λ carries. (carries-stay source roots done).0 (subst (λ (l : Ltype). Carries (split_of l) roots done) (sym same)
        ((carries-stay sink roots done).1 carries)),
  )

  values-stay : (roots : List (List Tree)) → Carries (split_of source) roots (done_on (streams_of t)) ↔ Carries (split_of sink) roots
      (done_on (streams_of arrived))
  values-stay roots = (
    λ carries. subst (Carries (split_of sink) roots) (sym (done-stays (streams_of t) (streams_of arrived) raised))
        ((by-types roots (done_on (streams_of t))).0 carries),
    λ carries. (by-types roots (done_on (streams_of t))).1 (subst (Carries (split_of sink) roots) (done-stays (streams_of t) (streams_of arrived) raised)
        carries),
  )

  tags-stay : OffencesFallWithTags → IsFirst (OffendsWithTags (split_of source) t) None → IsFirst (OffendsWithTags (split_of sink) arrived) None
  tags-stay fall legal = λ o offends. legal o (fall (split_of source) (streams_of t) (streams_of arrived) o raised
      (offends-back source sink same arrived o offends))

  ends-stay : CarriedEndingsStay → first_unfinished 0 (streams_of t) ≡ None → first_unfinished 0 (streams_of arrived) ≡ None
  ends-stay endings whole = ap (λ (a : TraceText). first_unfinished 0 (streams_of a)) at.to ∙ endings t arriving can ∙ whole

  decoded-stays : OffencesFallWithTags → CarriedEndingsStay → HaveOneLevelBack source sink → (roots : List (List Tree)) (users : List (List (List Bool)))
      → IsOutcome (split_of source) t (Carried roots users) → IsOutcome (split_of sink) arrived (Carried roots users)
  decoded-stays fall endings level roots users outcome = (
    record {
      legal = record {
        heads = ap (λ (a : TraceText). a.heads) at.to ∙ (port-heads source sink at.compatible level).1;
        first = tags-stay fall outcome.0.legal.first;
      };
      ends = ends-stay endings outcome.0.ends;
    },
    ((values-stay roots).0 outcome.1.0, outcome.1.1 ∙ sym (users_on-stay (streams_of t) (streams_of arrived) raised)),
  )

  pub arrives-whole : CarriedTracesStand → CarriedStreamsStay → CarriedTracesStayLegal → CarriedEndingsStay → OffencesFallWithTags
      → ArrivesWhole source sink t arrived
  arrives-whole stand stay legal endings fall = record {
    trace = subst IsTrace (sym at.to) (stand t arriving can);
    streams = subst (λ (a : TraceText). (stream : ℕ) (one other : StreamTrace) → slice_get (streams_of t) stream ≡ Some one
        → slice_get (streams_of a) stream ≡ Some other → IsSameStream one other) (sym at.to)
        (stay t arriving can);
    legal = subst (λ (a : TraceText). IsFirst (offends_in t) None → IsFirst (offends_in a) None) (sym at.to) (legal t arriving can);
    legal_with_tags = tags-stay fall;
    endings = ap (λ (a : TraceText). first_unfinished 0 (streams_of a)) at.to ∙ endings t arriving can;
    values = values-stay;
    decoded = λ level roots users outcome. decoded-stays fall endings level roots users outcome;
  }

pub traces_arrive_whole : CarriedTracesStand → CarriedStreamsStay → CarriedStreamsRise → CarriedTracesStayLegal → CarriedEndingsStay → CompatiblePortsRise
    → OffencesFallWithTags → TracesArriveWhole
traces_arrive_whole stand stay rise legal endings ports fall source sink t arrived at = arrives-whole rise ports source sink t arrived at stand stay legal
    endings fall
