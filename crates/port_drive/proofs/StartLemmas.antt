-- A stream before the first cycle of its run.
use Rattle.std.proofs.Common.{◌≡◌, ◌∙◌, ℕ, ◌+◌, ◌%◌, ◌<◌, ◌≤◌, ◌==◌, Bool, true, false, not, ◌&&◌, ◌||◌, nat_le, List, [], ◌∷◌, length, map, get_or, slice_get, Option, Some, MatchOption, refl, sym, ap, subst, arith}
use Rattle.std.proofs.lemmas.Bool.Decides.{nat_tests}
use Rattle.std.proofs.lemmas.Option.{slice_get-get_or}
use Rattle.tydi_base.specs.Level.{number_of}
use Rattle.physical_stream.specs.Params.{Parameters}
use Rattle.physical_stream.specs.declared.item.Item.{Item}
use Rattle.physical_stream.specs.declared.transfer.Transfer.{Transfer}
use Rattle.handshake.specs.Standing.{StandsFor}
use Rattle.handshake.specs.declared.cursor.Cursor.{Cursor}
use Rattle.handshake.specs.declared.feed.TransferFeed.{Ghosts}
use Rattle.plan_text.specs.declared.plan.StreamPlan.{StreamPlan}
use Rattle.scheduler.specs.Laws.{IsMultiple}
use Rattle.scheduler.specs.Planned.{MasksFit, plan_of}
use Rattle.scheduler.specs.Planners.{IsPlannerOf, rest_of, whole_of}
use Rattle.scheduler.specs.declared.planner.Planner.{Planner}
use Rattle.scheduler.proofs.PlanLemmas.{planned_once, planned_some}
use Rattle.scheduler.proofs.ScheduleLemmas.{multiple-rest}
use Rattle.logical_value.specs.Fits.{fits_split}
use Rattle.logical_value.specs.Tree.{Tree}
use Rattle.nest_shape.specs.Flat.{HaveDepth, IsSeries, flat_all, flat_form}
use Rattle.nest_shape.specs.Tree as nests
use Rattle.nest_shape.specs.declared.nest.Nest.{Nest}
use Rattle.trace_pieces.proofs.RunLemmas.{same-found}
use Rattle.type_split.specs.Streams.{IsPortSplit, PlainSplit}
use Rattle.type_split.specs.declared.split.Phys.{Phys}
use Rattle.value_views.specs.Views.{view_of_stream}
use Rattle.value_views.proofs.LawLemmas.{streams-have-views}
use Rattle.scheduler.specs.Schedules.{IsFaultOf}
use Rattle.scheduler.specs.declared.fault.ScheduleFault.{ScheduleFault}
use Rattle.scheduler.specs.declared.fault.ScheduleFault.TheVariants as schedules
use Rattle.port_drive.specs.Faults.{reason_of}
use Rattle.port_drive.specs.Drives.{Undriven, CountNotMultiple, is_multiple, items_in, items_on}
use Rattle.port_drive.specs.Starting.{StartsItems}
use Rattle.port_drive.proofs.DriveLemmas.{multiple-so}

-- ---- the lanes divide the items

multiple-is : (p : Parameters) (items : List Item) → 1 ≤ p.lanes → IsMultiple p items → is_multiple p items ≡ true
multiple-is p items some is = by_whole (p.dims == 0) (nat_le (number_of p.level) 4) refl refl
  where
    by_whole : (flat low : Bool) → (p.dims == 0) ≡ flat → nat_le (number_of p.level) 4 ≡ low → (not (flat && low) || (length items % p.lanes == 0)) ≡ true
    by_whole true true is_flat is_low =
        let none : p.dims ≡ 0 = grind (arith, nat_tests) in
        let few : number_of p.level ≤ 4 = grind (arith, nat_tests) in
        (multiple-rest p items p.lanes some refl (none, few)).1 is
    by_whole true false is_flat is_low = refl
    by_whole false low is_flat is_low = refl

pub not-multiple : (p : Parameters) (items : List Item) → 1 ≤ p.lanes → (IsMultiple p items → ⊥) → is_multiple p items ≡ false
not-multiple p items some none = by_test (is_multiple p items) refl
  where
    by_test : (test : Bool) → is_multiple p items ≡ test → test ≡ false
    by_test true is = absurd (none (multiple-so p items some is))
    by_test false is = refl

-- ---- a cursor over a planner that gave nothing

pub starts-items : {T : Ghosts Planner} → (p : Parameters) (items : List Item) (plan : StreamPlan) (gaps : List ℕ) (planner : Planner) (c : Cursor Planner T) → 1 ≤ p.lanes → MasksFit p plan.wishes → IsPlannerOf p items plan planner
    → c.params ≡ p → c.gaps ≡ gaps → whole_of c.feed ≡ whole_of planner → StandsFor rest_of c (rest_of planner) [] → StartsItems {T = T} p items gaps plan.wishes plan.users c
starts-items {T} p items plan gaps planner c some masks is params gaps_are whole stands = record {
  multiple = multiple-is p items some is.all.multiple;
  params = params;
  whole = whole ∙ planned_once p plan.wishes plan.users items (whole_of planner) (plan_of p plan.wishes plan.users items) is.all.planned
      (planned_some (length items + length plan.wishes) p plan.wishes plan.users items some masks (omega arith));
  gaps_are = gaps_are;
  stands = subst (λ (ts : List Transfer). StandsFor rest_of c ts []) (is.rest ∙ sym whole) stands;
}

-- ---- the items of a stream

-- the items of its view in its dimensions are those of the value on it
pub items-seen : (split : PlainSplit) (value : List (List Tree)) (number : ℕ) (stream : Phys) (all : List Item) → IsPortSplit split → fits_split split value ≡ true → slice_get split.streams number ≡ Some stream
    → ((phys : Phys) (view : List nests.Tree) → slice_get split.streams number ≡ Some phys → view_of_stream split value number ≡ Some view → all ≡ flat_all phys.params.dims (nests.trees_of view))
    → all ≡ items_on split value number stream
items-seen split value number stream all port fits there are =
    let has = streams-have-views split port value fits number stream there in
    are stream has.view there has.is ∙ sym (ap (items_in stream.params.dims) has.is)

-- ---- why there is no run

same-reason : (number count lanes other_count other_lanes : ℕ) → count ≡ other_count → lanes ≡ other_lanes → CountNotMultiple number count lanes ≡ CountNotMultiple number other_count other_lanes
same-reason number count lanes other_count other_lanes counts same =
    ap (λ (n : ℕ). CountNotMultiple number n lanes) counts ∙ ap (λ (n : ℕ). CountNotMultiple number other_count n) same

pub no-run-for : (number : ℕ) (p : Parameters) (items : List Item) (fault : ScheduleFault) (found : Option Undriven) → 1 ≤ p.lanes → IsFaultOf p items fault → found ≡ reason_of number fault
    → MatchOption found (Unit {0}) (λ reason. (is_multiple p items ≡ false) × (reason ≡ CountNotMultiple number (length items) p.lanes))
no-run-for number p items (schedules.CountNotMultiple count lanes) found some fault is =
    subst (λ (o : Option Undriven). MatchOption o (Unit {0}) (λ reason. (is_multiple p items ≡ false) × (reason ≡ CountNotMultiple number (length items) p.lanes))) (sym is)
    (not-multiple p items some fault.0, same-reason number count lanes (length items) p.lanes fault.1 fault.2)
no-run-for number p items schedules.Memory found some fault is =
    subst (λ (o : Option Undriven). MatchOption o (Unit {0}) (λ reason. (is_multiple p items ≡ false) × (reason ≡ CountNotMultiple number (length items) p.lanes))) (sym is) tt

-- ---- the stream of a number

pub stream-there : (streams slice : List Phys) (number : ℕ) (stream : Phys) → number < length streams → slice ≡ streams → stream ≡ get_or slice number stream → slice_get streams number ≡ Some stream
stream-there streams slice number stream within same is =
    slice_get-get_or streams number stream within ∙ ap Some (ap (λ (l : List Phys). get_or l number stream) (sym same) ∙ sym is)
