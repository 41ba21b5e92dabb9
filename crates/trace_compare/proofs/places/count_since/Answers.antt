use Rattle.std.proofs.Common.{◌+◌, ◌≤◌, ℕ, sym, subst}
use Rattle.trace_compare.proofs.CountLemmas.{count-next, few_counted}
use Rattle.trace_compare.proofs.places.count_since.Goals as goal

pub items-preserved : goal.items-preserved
items-preserved c = record {
  count =
      count-next c.args.rank c.args.items.now c.items.item-index c.item-item.result c.items.count c.counted-count.result c.items-test.true c.item-item.is c.items.invariant.count c.counted-count.ensures;
  few =
      subst (λ (k : ℕ). k ≤ c.items.item-index + 1) (sym c.counted-count.ensures) (few_counted c.args.rank c.item-item.result c.items.count c.items.item-index c.items.invariant.few);
}
