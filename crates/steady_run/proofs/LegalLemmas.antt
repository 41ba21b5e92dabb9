-- Steady cycles of planned transfers break no rule.
use Rattle.std.proofs.Common.{◌∙◌, Bool, List, map, sym, ap, subst, arith}
use Rattle.std.proofs.lemmas.List.{take_all}
use Rattle.physical_stream.specs.Breaks.{Breaks}
use Rattle.physical_stream.specs.Counts.{transfers_of}
use Rattle.physical_stream.specs.Cycles.{Cycle}
use Rattle.physical_stream.specs.Ending.{ending_of}
use Rattle.physical_stream.specs.Items.{items_of_all}
use Rattle.scheduler.specs.Laws.{IsLegalRun}
use Rattle.scheduler.proofs.LawLemmas.{planned_items, planned_runs_are_legal}
use Rattle.steady_run.specs.Laws.{IsGappedRun, SteadyPlansAreLegal}
use Rattle.steady_run.proofs.FrontLemmas.{steady_is_front}
use Rattle.steady_run.proofs.GapLemmas.{steady_is_run}

pub steady_plans_are_legal : SteadyPlansAreLegal
steady_plans_are_legal p wishes users all ts cycles pauses can planned steady = record {
  legal = λ rule number broken. run.legal rule number (subst (λ (l : List Cycle). Breaks rule p l number) found.run broken);
  ends_whole = λ over. ap (ending_of p) found.run ∙ run.ends_whole (ap transfers_of (sym found.run) ∙ over);
  carries = λ over.
      ap (items_of_all p) (steady_is_front ts cycles steady ∙ take_all (transfers_of cycles) ts (omega (arith, over)))
      ∙ planned_items p wishes users all ts can.lanes can.fit planned;
}
  where
    bits : List Bool
    bits = map (λ (c : Cycle). c.ready) cycles

    found : IsGappedRun p ts cycles
    found = steady_is_run p ts cycles pauses steady

    run : IsLegalRun p ts found.gaps bits
    run = planned_runs_are_legal p wishes users all ts found.gaps bits can planned
