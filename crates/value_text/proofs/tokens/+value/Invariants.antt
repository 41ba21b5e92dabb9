use Rattle.std.proofs.Common.{◌≡◌, ◌+◌, ◌*◌, drop, []}
use Rattle.logical_types.specs.Tree.{plain, plain_parts}
use Rattle.value_text.specs.Typed.{fields, variant}
use Rattle.value_text.proofs.TypedLemmas.{weight, weight_of_parts}
use Rattle.value_text.proofs.tokens.+value.Given as goal

abbrev pub decreases-Tokens::take_element : goal.decreases-Tokens::take_element
decreases-Tokens::take_element l = 8 * weight (plain l.ltype.now)

abbrev pub decreases-Tokens::take_group : goal.decreases-Tokens::take_group
decreases-Tokens::take_group l = 8 * weight_of_parts (plain_parts l.parts.now) + 6

abbrev pub decreases-Tokens::take_fields : goal.decreases-Tokens::take_fields
decreases-Tokens::take_fields l = 8 * weight_of_parts (plain_parts l.parts.now) + 5

abbrev pub decreases-Tokens::take_field : goal.decreases-Tokens::take_field
decreases-Tokens::take_field l = 8 * weight (plain l.part.now.ltype) + 1

abbrev pub decreases-Tokens::take_union : goal.decreases-Tokens::take_union
decreases-Tokens::take_union l = 8 * weight_of_parts (plain_parts l.parts.now) + 4

abbrev pub decreases-Tokens::take_variant : goal.decreases-Tokens::take_variant
decreases-Tokens::take_variant l = 8 * weight_of_parts (plain_parts l.parts.now) + 3

abbrev pub decreases-Tokens::take_selected : goal.decreases-Tokens::take_selected
decreases-Tokens::take_selected l = 8 * weight (plain l.ltype.now) + 1

abbrev pub decreases-Tokens::take_stream : goal.decreases-Tokens::take_stream
decreases-Tokens::take_stream l = 8 * (weight (plain l.stream.now.element) + l.stream.now.dims) + 6

abbrev pub decreases-Tokens::take_nest : goal.decreases-Tokens::take_nest
decreases-Tokens::take_nest l = 8 * (weight (plain l.element.now) + l.depth) + 5

abbrev pub decreases-Tokens::take_list : goal.decreases-Tokens::take_list
decreases-Tokens::take_list l = 8 * (weight (plain l.element.now) + l.depth) + 12

abbrev pub decreases-Tokens::take_members : goal.decreases-Tokens::take_members
decreases-Tokens::take_members l = 8 * (weight (plain l.element.now) + l.depth) + 11

abbrev pub decreases-Tokens::take_next : goal.decreases-Tokens::take_next
decreases-Tokens::take_next l = 8 * (weight (plain l.element.now) + l.depth) + 8

abbrev pub decreases-Tokens::take_members-repeated+arg4 : goal.decreases-Tokens::take_members-repeated+arg4
decreases-Tokens::take_members-repeated+arg4 l = 8 * (weight (plain l.element.now) + l.depth) + 10

-- the fields so far, and those that are left, are read as all are
abbrev pub invariant-Tokens::take_fields-parts : goal.invariant-Tokens::take_fields-parts
invariant-Tokens::take_fields-parts l = fields (plain_parts l.parts) (plain_parts l.parts) [] l.initial.self ≡ fields (plain_parts l.parts) (plain_parts (drop l.part-index l.parts)) l.fields l.self

-- the variant of the name is among those that are left
abbrev pub invariant-Tokens::take_variant-parts : goal.invariant-Tokens::take_variant-parts
invariant-Tokens::take_variant-parts l = record {
  same : variant (plain_parts l.parts) 0 l.name l.initial.self ≡ variant (plain_parts (drop l.part-index l.parts)) l.tag l.name l.initial.self;
  kept : l.self ≡ l.initial.self;
}
