use Rattle.std.proofs.Common.{◌≡◌, take}
use Rattle.monitor_bench.proofs.making.monitor.Given as goal

abbrev pub invariant-streams : goal.invariant-streams
invariant-streams l = l.want ≡ take l.list-index l.items
