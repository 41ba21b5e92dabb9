use Rattle.std.proofs.Common.{◌≡◌, replicate}
use Rattle.elastic_net.proofs.making.no_counts.Given as goal

abbrev pub invariant-counts : goal.invariant-counts
invariant-counts l = l.counts.items ≡ replicate l._number 0
