-- The run through a reshaper before its first cycle.
use Rattle.std.proofs.Common.{◌≡◌, ◌∙◌, ℕ, ◌+◌, ◌%◌, ◌≤◌, ◌==◌, ◌&&◌, ◌||◌, not, nat_le, Bool, true, false, if◌then◌else◌, List, [], ◌∷◌, length, Option, Some, None, Result, Ok, Err, IsErrAnd, MatchOption, refl, sym, ap, subst, arith}
use Rattle.std.specs.List.{All}
use Rattle.std.proofs.lemmas.Bool.Decides.{nat_tests}
use Rattle.std.proofs.lemmas.List.Elements.{All-weaker}
use Rattle.tydi_base.specs.Level.{number_of}
use Rattle.tydi_base.specs.Reading.{Gives, ◌>>=◌}
use Rattle.physical_stream.specs.Params.{Parameters}
use Rattle.physical_stream.specs.Items.{items_of_all}
use Rattle.physical_stream.specs.Signals.{Fits, Shows}
use Rattle.physical_stream.specs.declared.item.Item.{Item}
use Rattle.physical_stream.specs.declared.item.Item.TheVariants.{Elem, Close}
use Rattle.physical_stream.specs.declared.transfer.Transfer.{Transfer}
use Rattle.plan_text.specs.declared.plan.StreamPlan.{StreamPlan}
use Rattle.handshake.specs.Rows.{StreamRun}
use Rattle.handshake.specs.declared.cursor.Cursor.{Cursor}
use Rattle.handshake.specs.declared.feed.TransferFeed.{Ghosts}
use Rattle.scheduler.specs.Laws.{AreItems, CanBePlanned, IsMultiple}
use Rattle.scheduler.specs.Planned.{Planned, plan_of}
use Rattle.scheduler.specs.Planners.{whole_of}
use Rattle.scheduler.specs.declared.planner.Planner.{Planner}
use Rattle.scheduler.proofs.LawLemmas.{planned_are_shown, planned_items}
use Rattle.scheduler.proofs.PlanLemmas.{planned_some}
use Rattle.scheduler.proofs.ScheduleLemmas.{multiple-rest}
use Rattle.reshape.specs.Standing.{to_of}
use Rattle.reshape.specs.declared.reshape_run.ReshapeRun.{ReshapeRun}
use Rattle.reshape.specs.declared.reshaper.Reshaper.{Reshaper}
use Rattle.port_drive.specs.Drives.{CountNotMultiple, Undriven, is_multiple, planned_run}
use Rattle.port_drive.specs.Faults.{reason_in}
use Rattle.port_drive.specs.Starting.{StartsItems}
use Rattle.port_drive.specs.declared.fault.DriveFault.{DriveFault}
use Rattle.port_drive.proofs.DriveLemmas.{multiple-so}
use Rattle.port_drive.proofs.StartLemmas.{not-multiple}
use Rattle.port_reshape.specs.Reshapes.{source_of}
use Rattle.port_reshape.specs.Starting.{CanPass, IsFarOf, source_in}
use Rattle.port_reshape.specs.declared.far_items.FarItems.{FarItems}

-- items are those of each stream with the same dimensions and elements
pub items-same : (p q : Parameters) (items : List Item) → p.dims ≡ q.dims → p.element ≡ q.element → AreItems p items → AreItems q items
items-same p q [] dims element fit = tt
items-same p q (Elem word ∷ more) dims element fit = (fit.0 ∙ element, items-same p q more dims element fit.1)
items-same p q (Close dim ∷ more) dims element fit = (let less = fit.0 in omega (arith, less, dims), items-same p q more dims element fit.1)

multiple-is : (p : Parameters) (items : List Item) → 1 ≤ p.lanes → IsMultiple p items → is_multiple p items ≡ true
multiple-is p items some is = by_whole (p.dims == 0) (nat_le (number_of p.level) 4) refl refl
  where
    by_whole : (flat low : Bool) → (p.dims == 0) ≡ flat → nat_le (number_of p.level) 4 ≡ low → (not (flat && low) || (length items % p.lanes == 0)) ≡ true
    by_whole true true is_flat is_low =
        let none : p.dims ≡ 0 = grind (arith, nat_tests) in
        let few : number_of p.level ≤ 4 = grind (arith, nat_tests) in
        (multiple-rest p items p.lanes some refl (none, few)).1 is
    by_whole true false is_flat is_low = refl
    by_whole false low is_flat is_low = refl

pub far-of : (to : Parameters) (slice items : List Item) → slice ≡ items → (far : FarItems) → IsFarOf to slice far → IsFarOf to items far
far-of to slice items same far is = subst (λ (l : List Item). IsFarOf to l far) same is

module _ (from to : Parameters) (items : List Item) (plan : StreamPlan) where
  -- the source, by what is known of the lanes of both sides
  abbrev source_by : Bool → Bool → Result StreamRun Undriven
  source_by near far =
      (if near then Ok (planned_run from items plan) else Err (CountNotMultiple 0 (length items) from.lanes))
      >>= λ (source : StreamRun). if far then Ok source else Err (CountNotMultiple 0 (length items) to.lanes)

  source-by : (near far : Bool) → is_multiple from items ≡ near → is_multiple to items ≡ far → source_of from to items plan ≡ source_by near far
  source-by near far is_near is_far = ap (λ (b : Bool). source_by b (is_multiple to items)) is_near ∙ ap (source_by near) is_far

  module _ (pass : CanPass from to items plan) where
    pub fit-far : AreItems to items
    fit-far = items-same from to items pass.dims pass.element pass.fit

  module _ (pass : CanPass from to items plan) (far : FarItems) (far_is : IsFarOf to items far) where
    divides-is : (divides : Bool) → far.divides ≡ divides → is_multiple to items ≡ divides
    divides-is true is = by_test (is_multiple to items) refl
      where
        by_test : (test : Bool) → is_multiple to items ≡ test → test ≡ true
        by_test true e = refl
        by_test false e = let so = far_is.divides.0 is in absurd (let clash : false ≡ true = sym e ∙ multiple-is to items pass.some_far so in cc)
    divides-is false is = not-multiple to items pass.some_far (λ so. let e = far_is.divides.1 so in let clash : false ≡ true = sym is ∙ e in cc)

    module _ {T : Ghosts Planner} where
      module _ (near : Cursor Planner T) (starts : StartsItems {T = T} from items plan.gaps plan.wishes plan.users near) where
        pub far-err : (result : Result (ReshapeRun Planner T) DriveFault) (fault : DriveFault) → IsErrAnd result (λ e. e ≡ fault)
            → MatchOption (reason_in fault) (Unit {0}) (λ reason. (far.divides ≡ false) × (reason ≡ CountNotMultiple 0 far.count to.lanes)) → Gives reason_in (source_in {T = T}) result (source_of from to items plan)
        far-err (Ok run) fault is why = absurd is
        far-err (Err e) fault is why = subst (λ (f : DriveFault). MatchOption (reason_in f) (Unit {0}) (λ reason. source_of from to items plan ≡ Err reason)) (sym is) (by_reason (reason_in fault) why)
          where
            by_reason : (found : Option Undriven) → MatchOption found (Unit {0}) (λ reason. (far.divides ≡ false) × (reason ≡ CountNotMultiple 0 far.count to.lanes))
                → MatchOption found (Unit {0}) (λ reason. source_of from to items plan ≡ Err reason)
            by_reason None why = tt
            by_reason (Some reason) why =
                source-by true false starts.multiple (divides-is false why.0) ∙ ap (λ (n : ℕ). Err (CountNotMultiple 0 n to.lanes)) (sym far_is.count) ∙ ap Err (sym why.1)

        -- ---- the run

        planned-near : Planned from plan.wishes plan.users items (plan_of from plan.wishes plan.users items)
        planned-near = planned_some (length items + length plan.wishes) from plan.wishes plan.users items pass.some pass.masks (omega arith)

        near-can : CanBePlanned from plan.wishes items
        near-can = record { lanes = pass.some; fit = pass.fit; nested = pass.nested; whole = pass.whole; multiple = multiple-so from items pass.some starts.multiple; masks = pass.masks }

        -- each transfer of the source fits its stream
        pub near-fits : All (Fits near.params) (whole_of near.feed)
        near-fits =
            subst (λ (p : Parameters). All (Fits p) (whole_of near.feed)) (sym starts.params)
            (subst (All (Fits from)) (sym starts.whole)
            (All-weaker (Shows from) (Fits from) (λ t shows. shows.fits) (plan_of from plan.wishes plan.users items)
            (planned_are_shown from plan.wishes plan.users items (plan_of from plan.wishes plan.users items) near-can pass.users planned-near)))

        near-items : items_of_all near.params (whole_of near.feed) ≡ items
        near-items =
            ap (λ (p : Parameters). items_of_all p (whole_of near.feed)) starts.params
            ∙ ap (items_of_all from) starts.whole
            ∙ planned_items from plan.wishes plan.users items (plan_of from plan.wishes plan.users items) pass.some pass.fit planned-near

        -- the far transfers are counted
        pub far-planned : (reshaper : Reshaper) → to_of reshaper ≡ to → far.planned ≡ length (plan_of (to_of reshaper) [] [] (items_of_all near.params (whole_of near.feed)))
        far-planned reshaper is =
            far_is.planned ∙ ap (λ (l : List Item). length (plan_of to [] [] l)) (sym near-items)
            ∙ ap (λ (p : Parameters). length (plan_of p [] [] (items_of_all near.params (whole_of near.feed)))) (sym is)

        pub source-is : (run : ReshapeRun Planner T) → far.divides ≡ true → run.near ≡ near → run.ready ≡ plan.ready → source_of from to items plan ≡ Ok (source_in {T = T} run)
        source-is run divides near_is ready =
            source-by true true starts.multiple (divides-is true divides) ∙ ap Ok (sym (
            ap (λ (n : Cursor Planner T). record { params = n.params; transfers = whole_of n.feed; gaps = n.gaps; ready = run.ready }) near_is
            ∙ ap (λ (p : Parameters). record { params = p; transfers = whole_of near.feed; gaps = near.gaps; ready = run.ready }) starts.params
            ∙ ap (λ (ts : List Transfer). record { params = from; transfers = ts; gaps = near.gaps; ready = run.ready }) starts.whole
            ∙ ap (λ (gaps : List ℕ). record { params = from; transfers = plan_of from plan.wishes plan.users items; gaps = gaps; ready = run.ready }) starts.gaps_are
            ∙ ap (λ (bits : List Bool). record { params = from; transfers = plan_of from plan.wishes plan.users items; gaps = plan.gaps; ready = bits }) ready))
