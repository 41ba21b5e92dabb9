use Rattle.std.proofs.Common.{◌-◌, drop, take}
use Rattle.watch_text.specs.Text.{item_lines}
use Rattle.watch_text.proofs.LoopLemmas.{IsCounted}
use Rattle.watch_text.proofs.items.ItemLinesCounted.count.Given as goal

-- the bytes of the lines so far, with those that are left, are all
abbrev pub invariant-items : goal.invariant-items
invariant-items l = IsCounted l.count (item_lines l.self.params.now l.number (drop l.number (take l.self.to l.self.items.now)))
    (item_lines l.self.params.now l.self.from (drop l.self.from (take l.self.to l.self.items.now)))

abbrev pub decreases-items : goal.decreases-items
decreases-items l = l.self.to - l.number
