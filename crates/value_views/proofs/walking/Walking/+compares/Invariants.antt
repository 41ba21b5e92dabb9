use Rattle.std.proofs.Common.{◌≡◌, ◌+◌, ◌*◌, ◌-◌, drop}
use Rattle.logical_types.specs.Tree.{plain, plain_of_stream, plain_parts}
use Rattle.logical_value.proofs.FitLemmas.{size_of, size_of_parts}
use Rattle.type_split.specs.Streams.{plain_split}
use Rattle.value_views.specs.Giving.{plain_series}
use Rattle.value_views.proofs.WalkingLemmas.{PartsLeft}
use Rattle.value_views.proofs.walking.Walking.+compares.Given as goal

abbrev pub decreases-compare : goal.decreases-compare
decreases-compare l = 4 * size_of (plain l.ltype.now)

abbrev pub decreases-compare_parts : goal.decreases-compare_parts
decreases-compare_parts l = 4 * size_of_parts (plain_parts l.parts.now) + 1

abbrev pub decreases-compare_stream : goal.decreases-compare_stream
decreases-compare_stream l = 4 * size_of (plain_of_stream l.stream.now) - 1

-- no part before disagrees, and the first disagreement is among the parts that are left
abbrev pub invariant-compare_parts-parts : goal.invariant-compare_parts-parts
invariant-compare_parts-parts l = record {
  at : l.at ≡ l.part-index;
  left : PartsLeft (plain_split l.self.split.now) (plain_series l.self.given.now) l.initial.way l.way l.around l.number l.next l.dims l.at (plain_parts l.parts)
      (plain_parts (drop l.part-index l.parts));
}
