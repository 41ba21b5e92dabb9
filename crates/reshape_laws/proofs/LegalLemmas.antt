-- The far side of a reshaping run breaks no rule.
use Rattle.std.proofs.Common.{◌≡◌, ◌∙◌, ℕ, ◌-◌, List, [], ◌++◌, length, take, drop, sym, ap, arith}
use Rattle.std.proofs.lemmas.Grind.{flat_map-append}
use Rattle.std.proofs.lemmas.List.{length-take, take-append-drop, take-append-le}
use Rattle.std.proofs.Math.Seq.{take-append_seam}
use Rattle.physical_stream.specs.Params.{Parameters}
use Rattle.physical_stream.specs.Counts.{transfers_of}
use Rattle.physical_stream.specs.Cycles.{done_of, items_done}
use Rattle.physical_stream.specs.Items.{items_of, items_of_all}
use Rattle.physical_stream.specs.declared.item.Item.{Item}
use Rattle.physical_stream.specs.declared.transfer.Transfer.{Transfer}
use Rattle.scheduler.proofs.LawLemmas.{planned_are_shown, planned_items}
use Rattle.steady_run.specs.Laws.{IsLegalSteady}
use Rattle.steady_run.proofs.FrontLemmas.{steady_is_front, steady_is_shown}
use Rattle.steady_run.proofs.LegalLemmas.{steady_plans_are_legal}
use Rattle.steady_run.proofs.PauseLemmas.{high_streams_pause}
use Rattle.reshape.specs.Reshaping.{Sides, buffer_of, far_of, near_cycles, sides_of}
use Rattle.reshape_laws.specs.Laws.{CanBeReshaped, ReshapingIsLegal, far_plan}
use Rattle.reshape_laws.proofs.SideLemmas.{Goes, far-bits, goes-run, near-splits, planned, to_come}

module _ (from to : Parameters) (ts : List Transfer) (gaps : List ℕ) (reshaped : CanBeReshaped from to ts) (sides : Sides) (goes : Goes from to ts gaps sides) where
  front : done_of sides.far ≡ take (transfers_of sides.far) (far_plan from to ts)
  front = steady_is_front (far_plan from to ts) sides.far goes.steady

  -- the items that went out are the first of those that went in
  out-is : items_done to sides.far ≡ take (length (items_done to sides.far)) (items_done from (near_cycles from to ts gaps sides))
  out-is =
      sym (take-append_seam (items_done to sides.far) (items_of_all to (drop (transfers_of sides.far) (far_plan from to ts))))
      ∙ ap (take (length (items_done to sides.far))) (whole ∙ sym (near-splits from ts gaps sides.near))
      ∙ take-append-le (length (items_done to sides.far)) (items_done from (near_cycles from to ts gaps sides)) (to_come from ts gaps sides.near) goes.within
    where
      whole : items_done to sides.far ++ items_of_all to (drop (transfers_of sides.far) (far_plan from to ts)) ≡ items_of_all from ts
      whole =
          ap (λ (l : List Transfer). items_of_all to l ++ items_of_all to (drop (transfers_of sides.far) (far_plan from to ts))) front
          ∙ sym (flat_map-append (items_of to) (take (transfers_of sides.far) (far_plan from to ts)) (drop (transfers_of sides.far) (far_plan from to ts)))
          ∙ ap (items_of_all to) (take-append-drop (transfers_of sides.far) (far_plan from to ts))
          ∙ planned_items to [] [] (items_of_all from ts) (far_plan from to ts) reshaped.can.lanes reshaped.can.fit (planned from to ts gaps reshaped)

  pub between-is : items_done to sides.far ++ buffer_of from to ts gaps sides ≡ items_done from (near_cycles from to ts gaps sides)
  between-is =
      ap (λ (l : List Item). l ++ buffer_of from to ts gaps sides) out-is
      ∙ take-append-drop (length (items_done to sides.far)) (items_done from (near_cycles from to ts gaps sides))

  -- where none is left, all are done
  pub none-left : length (far_plan from to ts) - transfers_of sides.far ≡ 0 → transfers_of sides.far ≡ length (far_plan from to ts)
  none-left none = omega (arith, none, ap length front, length-take (transfers_of sides.far) (far_plan from to ts))

pub reshaping_is_legal : ReshapingIsLegal
reshaping_is_legal from to ts gaps ready reshaped = record {
  bits = far-bits from to ts gaps (record { near = []; far = [] }) ready;
  steady = goes.steady;
  front = steady_is_front (far_plan from to ts) (far_of from to ts gaps ready) goes.steady;
  between = between-is from to ts gaps reshaped sides goes;
  shown = steady_is_shown to (far_plan from to ts) (far_of from to ts gaps ready) (planned_are_shown to [] [] (items_of_all from ts) (far_plan from to ts) reshaped.can tt (planned from to ts gaps reshaped)) goes.steady;
  legal = legal.legal;
  ends_whole = λ none. legal.ends_whole (none-left from to ts gaps reshaped sides goes none);
  carries = λ none. legal.carries (none-left from to ts gaps reshaped sides goes none);
}
  where
    sides : Sides
    sides = sides_of from to ts gaps ready

    goes : Goes from to ts gaps sides
    goes = goes-run from to ts gaps reshaped ready

    legal : IsLegalSteady to (items_of_all from ts) (far_plan from to ts) (far_of from to ts gaps ready)
    legal = steady_plans_are_legal to [] [] (items_of_all from ts) (far_plan from to ts) (far_of from to ts gaps ready) (high_streams_pause to reshaped.pauses) reshaped.can (planned from to ts gaps reshaped) goes.steady
