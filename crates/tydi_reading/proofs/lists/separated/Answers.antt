use Rattle.std.proofs.Common.{[], ◌∷◌, ◌++◌, rules}
use Rattle.tydi_reading.specs.Lists.{one_more, separated}
use Rattle.tydi_reading.proofs.LoopLemmas.{mapped-less}
use Rattle.tydi_reading.proofs.lists.separated.Goals as goal

pub returns : goal.returns
unfolding separated
returns g c read end separator last tells separates reads shrinks =
    let made = c.steps.ensures (one_more read) end separator last tells separates (λ p q found a k. search rules) (λ found. mapped-less (λ x. found ++ x ∷ []) read shrinks) in
    search rules
