use Rattle.reshape.proofs.CountLemmas.{IsCounting}
use Rattle.reshape.proofs.counting.far_count.Given as goal

abbrev pub invariant-items : goal.invariant-items
invariant-items l = IsCounting l.to l.items l.count l.front l.item-index
