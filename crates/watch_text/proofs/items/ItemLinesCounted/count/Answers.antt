use Rattle.std.specs.Prelude.{codes}
use Rattle.std.proofs.Common.{◌+◌, ◌++◌, drop, take}
use Rattle.watch_text.specs.Text.{item_line, item_lines}
use Rattle.watch_text.proofs.ItemLemmas.{lines-step}
use Rattle.watch_text.proofs.LoopLemmas.{counted-more}
use Rattle.watch_text.proofs.items.ItemLinesCounted.count.Goals as goal

pub items-preserved : goal.items-preserved
items-preserved c =
    let p = c.args.self.now.params.now in let items = c.args.self.now.items.now in let to = c.args.self.now.to in
    let line = item_line p c.items.number c.in-Some.item.now ++ codes "\n" in
    counted-more c.items.count c.saturating_add-count.result c.count.result line (item_lines p c.items.number (drop c.items.number (take to items)))
    (item_lines p (c.items.number + 1) (drop (c.items.number + 1) (take to items))) _ c.items.invariant c.count.ensures c.saturating_add-count.ensures
    (lines-step p items to c.items.number c.in-Some.item.now c.in-Some.ensures.lookup.3.0 c.in-Some.ensures.lookup.1 c.items-test.true)
