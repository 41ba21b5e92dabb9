use Rattle.std.proofs.Common.{◌+◌, ◌≤◌, length, drop}
use Rattle.logical_types.specs.Tree.{plain_parts}
use Rattle.type_split.specs.Nodes.{streams_in_parts}
use Rattle.type_split.proofs.EndLemmas.{AreLeft}
use Rattle.type_split.proofs.ends.+ends.Given as goal

-- the ends of the parts that are left are to be added behind those that were added
abbrev pub invariant-add_parts-parts : goal.invariant-add_parts-parts
invariant-add_parts-parts l = streams_in_parts (plain_parts l.parts) + length l.initial.ends.items ≤ 65536
    → AreLeft l.initial.ends.items l.ends.items (plain_parts l.parts) (plain_parts (drop l.part-index l.parts))
