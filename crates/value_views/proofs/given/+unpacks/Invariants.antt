use Rattle.std.proofs.Common.{◌≡◌, ◌++◌, ◌+◌, ◌*◌, drop, length, map}
use Rattle.logical_types.specs.Tree.{plain}
use Rattle.logical_value.specs.Tree as values
use Rattle.nest_shape.specs.Tree as nests
use Rattle.value_views.specs.Joining.{HaveWords}
use Rattle.value_views.specs.Words.{unpacked}
use Rattle.value_views.proofs.GivingLemmas.{nest_size, nests_size}
use Rattle.value_views.proofs.given.+unpacks.Given as goal

abbrev pub decreases-unpack_nest : goal.decreases-unpack_nest
decreases-unpack_nest l = 2 * nest_size (nests.plain l.nest)

abbrev pub decreases-unpack_nests : goal.decreases-unpack_nests
decreases-unpack_nests l = 2 * nests_size (nests.plain_nests l.words) + 1

-- those before are unpacked, and the words of those that are left stand for values
abbrev pub invariant-unpack_nests-words : goal.invariant-unpack_nests-words
invariant-unpack_nests-words l = record {
  words : HaveWords (plain l.element) (nests.plain_nests (drop (length l.yielded) l.fn.words));
  done : map values.plain l.some ++ map (unpacked (plain l.element)) (map nests.plain (drop (length l.yielded) l.fn.words)) ≡ map (unpacked (plain l.element)) (map nests.plain l.fn.words);
}
