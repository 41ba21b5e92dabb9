-- The cycles of the far side of one stream, or why there are none.
use Rattle.std.proofs.Common.{◌≡◌, ◌∙◌, ◌==◌, Bool, true, false, if◌then◌else◌, List, length, Result, Ok, Err, refl, sym, ap, arith}
use Rattle.std.proofs.lemmas.Bool.Decides.{nat_tests}
use Rattle.tydi_base.specs.Reading.{◌>>=◌}
use Rattle.physical_stream.specs.Params.{Parameters}
use Rattle.physical_stream.specs.Cycles.{Cycle}
use Rattle.physical_stream.specs.declared.item.Item.{Item}
use Rattle.plan_text.specs.declared.plan.StreamPlan.{StreamPlan}
use Rattle.handshake.specs.Rows.{StreamRun}
use Rattle.reshape.specs.Reshaping.{far_of, undone_far}
use Rattle.port_drive.specs.Drives.{CountNotMultiple, NotFinished, Undriven, is_multiple, planned_run}
use Rattle.port_reshape.specs.Reshapes.{far_unless, reshape_items, source_of}

module _ (from to : Parameters) (items : List Item) (plan : StreamPlan) where
  -- both sides divide the items, and none is left at the far side
  pub record IsReshapedTo (rows : List Cycle) : Type 0 where
    pub near : is_multiple from items ≡ true
    pub far : is_multiple to items ≡ true
    pub over : undone_far from to (planned_run from items plan).transfers plan.gaps plan.ready ≡ 0
    pub rows_are : rows ≡ far_of from to (planned_run from items plan).transfers plan.gaps plan.ready

  pub reshaped-to : (rows : List Cycle) → reshape_items from to items plan ≡ Ok rows → IsReshapedTo rows
  reshaped-to rows is = by_near (is_multiple from items) (is_multiple to items) (undone_far from to (planned_run from items plan).transfers plan.gaps plan.ready == 0) refl refl refl is
    where
      by_near : (near far over : Bool) → is_multiple from items ≡ near → is_multiple to items ≡ far →
          (undone_far from to (planned_run from items plan).transfers plan.gaps plan.ready == 0) ≡ over →
          ((if near then Ok (planned_run from items plan) else Err (CountNotMultiple 0 (length items) from.lanes))
          >>= (λ (source : StreamRun). if far then Ok source else Err (CountNotMultiple 0 (length items) to.lanes)) >>= far_unless to) ≡ Ok rows → IsReshapedTo rows
      by_near true true true is_near is_far is_over e = record { near = is_near; far = is_far; over = grind (arith, nat_tests); rows_are = same (sym (ap (λ (b : Bool). if b then Ok (far_of from to (planned_run from items plan).transfers plan.gaps plan.ready) else Err (NotFinished 0 (undone_far from to (planned_run from items plan).transfers plan.gaps plan.ready))) is_over) ∙ e) }
        where
          same : ◌≡◌ {A = Result (List Cycle) Undriven} (Ok (far_of from to (planned_run from items plan).transfers plan.gaps plan.ready)) (Ok rows) → rows ≡ far_of from to (planned_run from items plan).transfers plan.gaps plan.ready
          same o = cc
      by_near true true false is_near is_far is_over e =
          let clash = sym (ap (λ (b : Bool). if b then Ok (far_of from to (planned_run from items plan).transfers plan.gaps plan.ready) else Err (NotFinished 0 (undone_far from to (planned_run from items plan).transfers plan.gaps plan.ready))) is_over) ∙ e in cc
      by_near true false over is_near is_far is_over e = cc
      by_near false far over is_near is_far is_over e = cc

  -- a source that is made is that of the plan
  pub source-made : (source : StreamRun) → source_of from to items plan ≡ Ok source → (is_multiple to items ≡ true) × (source ≡ planned_run from items plan)
  source-made source is = by_near (is_multiple from items) (is_multiple to items) refl is
    where
      by_near : (near far : Bool) → is_multiple to items ≡ far →
          ((if near then Ok (planned_run from items plan) else Err (CountNotMultiple 0 (length items) from.lanes))
          >>= (λ (run : StreamRun). if far then Ok run else Err (CountNotMultiple 0 (length items) to.lanes))) ≡ Ok source → (is_multiple to items ≡ true) × (source ≡ planned_run from items plan)
      by_near true true is_far e = (is_far, same e)
        where
          same : ◌≡◌ {A = Result StreamRun Undriven} (Ok (planned_run from items plan)) (Ok source) → source ≡ planned_run from items plan
          same o = cc
      by_near true false is_far e = cc
      by_near false far is_far e = cc

  -- the cycles of the far side, where none is left
  pub far-made : (source : StreamRun) → source_of from to items plan ≡ Ok source → undone_far source.params to source.transfers source.gaps source.ready ≡ 0
      → reshape_items from to items plan ≡ Ok (far_of source.params to source.transfers source.gaps source.ready)
  far-made source made over =
      let test : (undone_far source.params to source.transfers source.gaps source.ready == 0) ≡ true = grind (arith, nat_tests) in
      ap (λ (r : Result StreamRun Undriven). r >>= far_unless to) made
      ∙ ap (λ (b : Bool). if b then Ok (far_of source.params to source.transfers source.gaps source.ready) else Err (NotFinished 0 (undone_far source.params to source.transfers source.gaps source.ready))) test
