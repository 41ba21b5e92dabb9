use Rattle.std.proofs.Common.{◌≡◌, ◌+◌, ◌*◌, ◌≤◌, List, drop}
use Rattle.type_split.specs.Nodes.{streams_in_parts}
use Rattle.logical_value.specs.Tree.{Tree, Trees, plain_values}
use Rattle.logical_value.specs.Tree.{plain as plain_value}
use Rattle.value_views.specs.Taking.{FieldsWait, VariantWaits, left}
use Rattle.value_views.proofs.SlotLemmas.{FieldsPlaced}
use Rattle.value_views.proofs.TakingLemmas.{VariantLeft}
use Rattle.logical_types.specs.Tree.{plain, plain_parts}
use Rattle.logical_value.proofs.FitLemmas.{size_of, size_of_parts}
use Rattle.value_views.proofs.filling.Filling.+fill.Given as goal

abbrev pub decreases-fill : goal.decreases-fill
decreases-fill l = 4 * size_of (plain l.ltype.now)

abbrev pub decreases-fill_group : goal.decreases-fill_group
decreases-fill_group l = 4 * size_of_parts (plain_parts l.parts.now) + 2

abbrev pub decreases-fill_fields : goal.decreases-fill_fields
decreases-fill_fields l = 4 * size_of_parts (plain_parts l.parts.now) + 1

-- the fields from the place on wait, and those before it are filled
abbrev pub invariant-fill_fields-parts : goal.invariant-fill_fields-parts
invariant-fill_fields-parts l = record {
  place : l.at ≡ l.part-index;
  few : streams_in_parts (plain_parts (drop l.part-index l.parts)) + l.next ≤ 65536;
  rest : (some : Trees) (more : List Tree) → FieldsWait (left l.initial.self) l.number (plain_parts l.parts) (plain_values l.fn.fields) some more
      → FieldsPlaced (left l.initial.self) (left l.self) l.number l.next (plain_parts l.parts) (plain_parts (drop l.part-index l.parts)) l.filled l.at some more;
}

abbrev pub decreases-fill_union : goal.decreases-fill_union
decreases-fill_union l = 4 * size_of_parts (plain_parts l.parts.now) + 2

abbrev pub decreases-fill_variant : goal.decreases-fill_variant
decreases-fill_variant l = 4 * size_of_parts (plain_parts l.parts.now) + 1

-- the variant that is looked for is among those that are left
abbrev pub invariant-fill_variant-parts : goal.invariant-fill_variant-parts
invariant-fill_variant-parts l = record {
  same : l.self ≡ l.initial.self;
  few : streams_in_parts (plain_parts (drop l.part-index l.parts)) + l.next ≤ 65536;
  left : (value : Tree) (more : List Tree) → VariantWaits (left l.initial.self) l.number (plain_parts l.parts) l.tag (plain_value l.one) value more
      → VariantLeft (left l.initial.self) l.number l.next (plain_parts l.parts) (plain_parts (drop l.part-index l.parts)) l.rest (plain_value l.one) value more;
}
