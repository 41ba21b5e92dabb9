-- The laws of what is planned.
use Rattle.std.proofs.Common.{◌≡◌, ◌∙◌, ℕ, ◌+◌, ◌≤◌, Bool, true, false, not, ◌||◌, List, [], ◌∷◌, ◌++◌, length, Option, None, Some, refl, sym, ap, subst, arith}
use Rattle.physical_stream.specs.Params.{Parameters}
use Rattle.physical_stream.specs.Items.{parts_below, items_of, items_of_all}
use Rattle.physical_stream.specs.Shape.{tail_of, tail_over, is_whole, may_close, has_misplaced, IsNested}
use Rattle.physical_stream.proofs.ShapeLemmas.{tail_of-over, tail_of-over_none}
use Rattle.physical_stream.specs.declared.item.Item.{Item}
use Rattle.physical_stream.specs.declared.item.Item.TheVariants as items
use Rattle.physical_stream.specs.declared.item.Tail.{Tail}
use Rattle.physical_stream.specs.declared.item.Tail.TheVariants as tails
use Rattle.physical_stream.specs.declared.transfer.Transfer.{Transfer}
use Rattle.complexity_rules.specs.Waiting.{IsLowestShown}
use Rattle.handshake.specs.Laws.{AreObedient}
use Rattle.handshake.proofs.RunLemmas.{runs_are_legal, runs_end_whole}
use Rattle.scheduler.specs.Lanes.{transfer_of}
use Rattle.scheduler.specs.Planned.{Planned, plan_on, first_wish, first_user, behind, load_of}
use Rattle.plan_text.specs.declared.plan.Wish.{Wish}
use Rattle.scheduler.specs.Laws.{AreItems, CanBePlanned, OneIsPlanned, PlannedAreShown, PlannedRunsAreLegal}
use Rattle.scheduler.proofs.CarryLemmas.{carried, items_of-carried}
use Rattle.scheduler.proofs.LoadLemmas.{taken_of, carries}
use Rattle.scheduler.proofs.PlanLemmas.{planned_once, planned_some, planned_few}
use Rattle.scheduler.proofs.ObeyLemmas.{obeys}
use Rattle.scheduler.proofs.ShowLemmas.{planned_shows}
use Rattle.scheduler.proofs.KeepLemmas.{Goes, StartsEmpty, keeps_of}

-- where each Close of nested items may stand, none is misplaced
placed_by : (tail : Option Tail) (done : List Item)
    → ((front rest : List Item) (dim : ℕ) → done ≡ front ++ items.Close dim ∷ rest → may_close (tail_over tail front) dim ≡ true) → has_misplaced tail done ≡ false
placed_by tail [] may = refl
placed_by tail (items.Elem word ∷ more) may =
    placed_by (Some tails.Elem) more (λ front rest dim is. may (items.Elem word ∷ front) rest dim (ap (λ (l : List Item). items.Elem word ∷ l) is))
placed_by tail (items.Close i ∷ more) may =
    ap (λ (b : Bool). not b || has_misplaced (Some (tails.Close i)) more) (may [] more i refl)
    ∙ placed_by (Some (tails.Close i)) more (λ front rest dim is. may (items.Close i ∷ front) rest dim (ap (λ (l : List Item). items.Close i ∷ l) is))

placed-IsNested : (done : List Item) → IsNested done → has_misplaced None done ≡ false
placed-IsNested done nested =
    placed_by None done (λ front rest dim is. ap (λ (tail : Option Tail). may_close tail dim) (sym (tail_of-over_none front)) ∙ nested front rest dim is)

pub planned_items : (p : Parameters) (wishes : List Wish) (users : List (List Bool)) (all : List Item) (ts : List Transfer) → 1 ≤ p.lanes → AreItems p all → Planned p wishes users all ts → items_of_all p ts ≡ all
planned_items p wishes users all [] some fit planned = sym planned
planned_items p wishes users all (t ∷ ts) some fit planned =
    let load = load_of p (first_wish p wishes) all in
    let taken = taken_of p (first_wish p wishes) all some fit in
    ap (λ (x : Transfer). items_of p x ++ items_of_all p ts) planned.1
    ∙ ap (λ (l : List Item). items_of p (transfer_of p (load_of p (first_wish p wishes) all).lanes (first_user p users)) ++ l)
    (planned_items p (behind wishes) (behind users) (load_of p (first_wish p wishes) all).rest ts some taken.left planned.2)
    ∙ carries p (first_wish p wishes) (first_user p users) all some fit

-- each transfer breaks no rule on what is shown
pub planned_obeys : (p : Parameters) (wishes : List Wish) (users : List (List Bool)) (all : List Item) (ts : List Transfer) (done : List Item) → 1 ≤ p.lanes → Goes p (tail_of done) all → Planned p wishes users all ts →
    AreObedient p done ts
planned_obeys p wishes users all [] done some goes planned = tt
planned_obeys p wishes users [] (t ∷ ts) done some goes planned = absurd (planned.0 refl)
planned_obeys p wishes users (item ∷ more) (t ∷ ts) done some goes planned =
    let taken = taken_of p (first_wish p wishes) (item ∷ more) some goes.fit in
    let keeps = keeps_of p (first_wish p wishes) (tail_of done) item more some goes in
    let lanes = (load_of p (first_wish p wishes) (item ∷ more)).lanes in
    let shows = obeys p (load_of p (first_wish p wishes) (item ∷ more)).lanes (first_user p users) taken.are some (tail_of done) keeps.rules in
    let carries_so : items_of p t ≡ parts_below (λ i. carried ((load_of p (first_wish p wishes) (item ∷ more)).lanes i)) p.lanes =
    ap (items_of p) planned.1 ∙ items_of-carried p (load_of p (first_wish p wishes) (item ∷ more)).lanes (first_user p users) taken.are in
    let tail_is : tail_over (tail_of done) (parts_below (λ i. carried ((load_of p (first_wish p wishes) (item ∷ more)).lanes i)) p.lanes) ≡ tail_of (done ++ items_of p t) =
    ap (tail_over (tail_of done)) (sym carries_so) ∙ sym (tail_of-over done (items_of p t)) in (
      subst (λ (x : Transfer). IsLowestShown p (tail_of done) x None) (sym planned.1) shows,
      planned_obeys p (behind wishes) (behind users) (load_of p (first_wish p wishes) (item ∷ more)).rest ts (done ++ items_of p t) some
          (subst (λ (tail : Option Tail). Goes p tail (load_of p (first_wish p wishes) (item ∷ more)).rest) tail_is keeps.goes) planned.2,
    )

starts : (all : List Item) → StartsEmpty None all
starts [] = tt
starts (items.Elem word ∷ more) = tt
starts (items.Close dim ∷ more) = refl

pub goes-first : (p : Parameters) (wishes : List Wish) (all : List Item) → CanBePlanned p wishes all → Goes p None all
goes-first p wishes all can = record {
  fit = can.fit;
  nested = placed-IsNested all can.nested;
  whole = ap (is_whole p.dims) (sym (tail_of-over_none all)) ∙ can.whole;
  even = can.multiple;
  ready = λ level. starts all;
}

pub one_is_planned : OneIsPlanned
one_is_planned p wishes users all can = record {
  some = (plan_on (length all + length wishes) p wishes users all, planned_some (length all + length wishes) p wishes users all can.lanes can.masks (omega arith));
  once = planned_once p wishes users all;
  carries = λ ts planned. planned_items p wishes users all ts can.lanes can.fit planned;
  few = λ ts planned. planned_few p wishes users all ts can.lanes can.masks planned;
}

pub planned_runs_are_legal : PlannedRunsAreLegal
planned_runs_are_legal p wishes users all ts gaps ready can planned =
    let obedient = planned_obeys p wishes users all ts [] can.lanes (goes-first p wishes all can) planned in
    let whole : is_whole p.dims (tail_of (items_of_all p ts)) ≡ true = ap (λ (l : List Item). is_whole p.dims (tail_of l)) (planned_items p wishes users all ts can.lanes can.fit planned) ∙ can.whole in
    record { legal = runs_are_legal p ts gaps ready obedient whole; ends_whole = runs_end_whole p ts gaps ready obedient whole }

pub planned_are_shown : PlannedAreShown
planned_are_shown p wishes users all ts can wide planned = planned_shows p wishes users all ts None can.lanes can.masks wide (goes-first p wishes all can) planned
