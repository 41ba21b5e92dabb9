use Rattle.std.proofs.Common.{◌≡◌, take, replicate}
use Rattle.elastic_net.proofs.stepping.clear_counts.Given as goal

abbrev pub invariant-components : goal.invariant-components
invariant-components l = take l.count-index l.past ≡ replicate l.count-index 0
