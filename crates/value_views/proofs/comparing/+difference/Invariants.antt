use Rattle.std.proofs.Common.{◌≡◌, ◌≤◌, ◌-◌, drop, length, map}
use Rattle.logical_value.specs.Tree.{plain}
use Rattle.value_views.specs.Along.{along}
use Rattle.value_views.specs.Comparing.{first_difference, same_shape}
use Rattle.value_views.specs.Series.{replaced}
use Rattle.value_views.proofs.comparing.+difference.Given as goal

abbrev pub decreases-difference : goal.decreases-difference
decreases-difference l = l.depth

abbrev pub decreases-members : goal.decreases-members
decreases-members l = length l.around - l.number

-- the first difference is among the members that are left
abbrev pub invariant-members : goal.invariant-members
invariant-members l = record {
  around : l.number ≤ length l.around;
  series : l.number ≤ length l.series;
  rest : first_difference (same_shape l.depth) l.number (replaced (along l.way) l.depth (map plain (drop l.number l.around))) (map plain (drop l.number l.series))
      ≡ first_difference (same_shape l.depth) 0 (replaced (along l.way) l.depth (map plain l.around)) (map plain l.series);
}
