use Rattle.std.proofs.Common.{◌≡◌, ◌≤◌, ℕ, ◌+◌, ◌-◌, ◌^◌, min, drop}
use Rattle.logical_types.specs.Tree.{plain_parts}
use Rattle.type_split.specs.Nodes.{streams_in_parts}
use Rattle.type_split.proofs.counts.+number_of_streams.Given as goal

-- the counted nodes, and the parts that are left, are all
pub record AreCounted (count left all : ℕ) : Type 0 where
  pub fits : count ≤ 2 ^ 64 - 1
  pub same : min (count + left) (2 ^ 64 - 1) ≡ min all (2 ^ 64 - 1)

abbrev pub invariant-streams_in_parts-parts : goal.invariant-streams_in_parts-parts
invariant-streams_in_parts-parts l = AreCounted l.count (streams_in_parts (plain_parts (drop l.part-index l.parts))) (streams_in_parts (plain_parts l.parts))
