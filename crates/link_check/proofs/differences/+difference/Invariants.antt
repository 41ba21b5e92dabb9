use Rattle.std.proofs.Common.{◌≡◌, drop}
use Rattle.logical_types.specs.Tree.{plain_parts}
use Rattle.link_check.specs.Differences.{difference_in_parts}
use Rattle.link_check.proofs.differences.+difference.Given as goal

-- the first difference is that of the parts that are left
abbrev pub invariant-in_lists-parts : goal.invariant-in_lists-parts
invariant-in_lists-parts l = difference_in_parts l.reversed (plain_parts (drop l.part-index l.parts)) (plain_parts l.rest) ≡ difference_in_parts l.reversed (plain_parts l.parts) (plain_parts l.others)
