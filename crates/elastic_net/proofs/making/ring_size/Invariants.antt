use Rattle.std.proofs.Common.{◌≡◌, ◌+◌, ◌*◌, ◌≤◌, take, sum}
use Rattle.elastic_net.proofs.making.ring_size.Given as goal

abbrev pub invariant-stages : goal.invariant-stages
invariant-stages l = record {
  is : l.size ≡ sum (take l.capacity-index l.stages) + 2;
  small : l.size ≤ 65536 * l.capacity-index + 2;
}
