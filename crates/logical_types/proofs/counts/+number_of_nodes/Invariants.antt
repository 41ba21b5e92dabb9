use Rattle.std.proofs.Common.{◌≡◌, ◌+◌, ◌-◌, ◌^◌, ◌≤◌, min, drop}
use Rattle.logical_types.specs.Size.{nodes_in_parts}
use Rattle.logical_types.specs.Tree.{plain_parts}
use Rattle.logical_types.proofs.counts.+number_of_nodes.Given as goal

-- the count so far, with the nodes of the parts that are left, is that of all
abbrev pub invariant-nodes_in_parts-parts : goal.invariant-nodes_in_parts-parts
invariant-nodes_in_parts-parts l = record {
  fits : l.count ≤ 2 ^ 64 - 1;
  so_far : min (l.count + nodes_in_parts (plain_parts (drop l.part-index l.parts))) (2 ^ 64 - 1) ≡ min (nodes_in_parts (plain_parts l.parts)) (2 ^ 64 - 1);
}
