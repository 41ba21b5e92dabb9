use Rattle.std.proofs.Common.{◌∷◌, refl}
use Rattle.tydi_base.proofs.ReadingLaws.{bind-at_ok, fails_then}
use Rattle.plan_text.specs.Blocks.{with_begun}
use Rattle.plan_text.specs.Faults.{fault_in}
use Rattle.plan_text.proofs.BlockLemmas.{Holds-begun}
use Rattle.plan_text.proofs.draft.Draft.begin.Goals as goal

pub returns-in-Ok-clause-begun : goal.returns-in-Ok-clause-begun
unfolding with_begun
returns-in-Ok-clause-begun c = λ found holds.
    let kept = c.close.ensures.kept found holds in
    let read = c.in-Ok.ensures.gives found kept in
    (c.in-Ok.block ∷ found, bind-at_ok _ _ c.in-Ok.block (rw c.close.ensures.streams at read), Holds-begun c.close.new.self _ found c.in-Ok.block kept refl refl refl c.in-Ok.ensures.within)

pub returns-in-Err-clause-begun : goal.returns-in-Err-clause-begun
unfolding with_begun
returns-in-Err-clause-begun c = λ found holds.
    let read = c.in-Err.ensures.gives found (c.close.ensures.kept found holds) in
    fails_then (fault_in c.in-Err.fault) _ _ (rw c.close.ensures.streams at read)
