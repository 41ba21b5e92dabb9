use Rattle.std.proofs.Common.{◌≡◌, take}
use Rattle.monitor_bench.proofs.making.copy_of.Given as goal

abbrev pub invariant-items : goal.invariant-items
invariant-items l = l.copy ≡ take l.item-index l.items
