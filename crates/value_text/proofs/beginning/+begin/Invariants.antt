use Rattle.std.proofs.Common.{◌+◌, ◌*◌}
use Rattle.logical_types.specs.Tree.{plain, plain_parts}
use Rattle.logical_value.proofs.FitLemmas.{size_of, size_of_parts}
use Rattle.value_text.proofs.beginning.+begin.Given as goal

abbrev pub decreases-begin_element : goal.decreases-begin_element
decreases-begin_element l = 4 * size_of (plain l.ltype.now)

abbrev pub decreases-begin_named : goal.decreases-begin_named
decreases-begin_named l = 4 * size_of (plain l.ltype.now) + 1

abbrev pub decreases-begin_variant : goal.decreases-begin_variant
decreases-begin_variant l = 4 * size_of_parts (plain_parts l.parts.now) + 2

abbrev pub decreases-begin_union : goal.decreases-begin_union
decreases-begin_union l = 4 * size_of_parts (plain_parts l.parts.now) + 3

abbrev pub decreases-begin_stream : goal.decreases-begin_stream
decreases-begin_stream l = 4 * size_of (plain l.stream.now.element) + 3

abbrev pub decreases-begin_nest : goal.decreases-begin_nest
decreases-begin_nest l = 4 * size_of (plain l.element.now) + 2
