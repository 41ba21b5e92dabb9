use Rattle.std.proofs.Common.{◌≡◌, ◌+◌, ◌-◌, ◌^◌, ◌≤◌, max, drop}
use Rattle.logical_types.specs.Tree.{plain_parts}
use Rattle.logical_types.specs.Width.{total_width, greatest_width, saturated}
use Rattle.logical_types.proofs.widths.+width.Given as goal

-- the total so far, with the widths of the parts that are left, is that of all
abbrev pub invariant-total_width-parts : goal.invariant-total_width-parts
invariant-total_width-parts l = record {
  small : l.total ≤ 2 ^ 32 - 1;
  so_far : saturated (l.total + total_width (plain_parts (drop l.part-index l.parts))) ≡ saturated (total_width (plain_parts l.parts));
}

-- the greatest width so far, or that of the parts that are left, is the greatest of all
abbrev pub invariant-union_width-parts : goal.invariant-union_width-parts
invariant-union_width-parts l = max l.greatest (saturated (greatest_width (plain_parts (drop l.part-index l.parts)))) ≡ saturated (greatest_width (plain_parts l.parts))
