use Rattle.std.proofs.Common.{◌∙◌, ◌∷◌, ◌++◌, [], ℕ, List, ap, ◌-◌}
use Rattle.trace_compare.specs.Places.{counts_down}
use Rattle.trace_compare.proofs.CountLemmas.{place-more}
use Rattle.trace_compare.proofs.places.place_after.Goals as goal

pub ranks-preserved : goal.ranks-preserved
ranks-preserved c =
    ap (λ (l : List ℕ). l ++ counts_down (c.ranks.rank - 1) c.args.items.now) (c.in_ok-push.ensures.ok ∙ ap (λ (k : ℕ). c.ranks.place ++ k ∷ []) c.count_since.ensures)
    ∙ place-more c.ranks.place c.ranks.rank c.args.items.now (counts_down c.args.dims c.args.items.now) c.ranks-test.true c.ranks.invariant
