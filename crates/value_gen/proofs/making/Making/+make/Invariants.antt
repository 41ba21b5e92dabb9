use Rattle.std.proofs.Common.{◌≡◌, ◌+◌, ◌*◌, drop, []}
use Rattle.logical_types.specs.Tree.{plain, plain_parts}
use Rattle.value_gen.specs.Draws.{times}
use Rattle.value_gen.specs.Leaves.{leaves_of_all}
use Rattle.value_gen.specs.Made.{element, fields, nest}
use Rattle.value_gen.proofs.Weights.{weight, weight_of_parts}
use Rattle.value_gen.proofs.making.Making.+make.Given as goal

abbrev pub decreases-element : goal.decreases-element
decreases-element l = 8 * weight (plain l.ltype.now)

abbrev pub decreases-group : goal.decreases-group
decreases-group l = 8 * weight_of_parts (plain_parts l.parts.now) + 6

abbrev pub decreases-fields : goal.decreases-fields
decreases-fields l = 8 * weight_of_parts (plain_parts l.parts.now) + 5

abbrev pub decreases-union : goal.decreases-union
decreases-union l = 8 * weight_of_parts (plain_parts l.parts.now) + 4

abbrev pub decreases-variant : goal.decreases-variant
decreases-variant l = 8 * weight_of_parts (plain_parts l.parts.now) + 3

abbrev pub decreases-stream : goal.decreases-stream
decreases-stream l = 8 * (weight (plain l.stream.now.element) + l.stream.now.dims) + 7

abbrev pub decreases-nest : goal.decreases-nest
decreases-nest l = 8 * (weight (plain l.element.now) + l.depth) + 5

abbrev pub decreases-nests : goal.decreases-nests
decreases-nests l = 8 * (weight (plain l.element.now) + l.depth) + 6

-- the fields so far, and those that are left, are made as all are
abbrev pub invariant-fields-parts : goal.invariant-fields-parts
invariant-fields-parts l = record {
  made : fields (plain_parts (drop l.part-index l.parts)) l.fields l.self.draws.last ≡ fields (plain_parts l.parts) [] l.initial.self.draws.last;
  room : leaves_of_all l.fields + l.self.room ≡ l.initial.self.room;
}

-- the nests so far, and those that are left, are made as all are
abbrev pub invariant-nests-nests : goal.invariant-nests-nests
invariant-nests-nests l = record {
  made : times l.left (nest (element (plain l.element)) l.depth) l.found l.self.draws.last ≡ times l.count (nest (element (plain l.element)) l.depth) [] l.initial.self.draws.last;
  room : leaves_of_all l.found + l.self.room ≡ l.initial.self.room;
}

abbrev pub decreases-nests-nests : goal.decreases-nests-nests
decreases-nests-nests l = l.left
