use Rattle.std.proofs.Common.{◌∙◌, add-one, ap, List, ◌++◌, ◌∷◌, [], None, Option}
use Rattle.plan_text.specs.declared.plan.StreamPlan.{StreamPlan}
use Rattle.plan_text.proofs.BlockLemmas.{blocks_from-more}
use Rattle.plan_text.proofs.draft.no_blocks.Goals as goal

pub streams-preserved : goal.streams-preserved
streams-preserved c = let h = c.in_ok-push.ensures.items in rw add-one (h ∙ ap (λ (l : List (Option StreamPlan)). l ++ None ∷ []) c.streams.invariant ∙ blocks_from-more 0 c.streams._number)
