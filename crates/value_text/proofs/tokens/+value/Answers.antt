use Rattle.std.proofs.Common.{◌≡◌, ◌∙◌, ◌-◌, suc, false, List, sym, ap, subst, rules, arith}
use Rattle.std.proofs.lemmas.Grind.{common_steps}
use Rattle.logical_types.specs.declared.ltype.Part.{Part}
use Rattle.logical_types.specs.Tree.{group, union, plain, plain_parts}
use Rattle.logical_types.proofs.PlainLemmas.{plain-Group, plain-Union, plain-Stream}
use Rattle.tydi_reading.proofs.LoopLemmas.{reads-less}
use Rattle.tydi_reading.specs.Lists.{repeated}
use Rattle.tydi_reading.specs.Reading.{Reads}
use Rattle.value_text.specs.Typed.{element, listed_values, nest, next_value}
use Rattle.value_text.specs.Words.{is_byte}
use Rattle.value_text.proofs.TypedLemmas.{less-element, less-nest, less-next, part_weight, weight}
use Rattle.value_text.proofs.tokens.+value.Goals as goal

pub Tokens::take_element-take_group-requires : goal.Tokens::take_element-take_group-requires
Tokens::take_element-take_group-requires t c =
    let is : plain c.args.ltype.now ≡ group (plain_parts c.as_slice.result.now) =
    ap plain c.in-Group.is ∙ plain-Group c.in-Group.parts ∙ ap (λ (l : List Part). group (plain_parts l)) (sym c.as_slice.ensures) in
    let size = ap weight is in (omega (arith, size, c.decreases), tt)

pub Tokens::take_element-take_union-requires : goal.Tokens::take_element-take_union-requires
Tokens::take_element-take_union-requires t c =
    let is : plain c.args.ltype.now ≡ union (plain_parts c.as_slice-in-Union.result.now) =
    ap plain c.in-Union.is ∙ plain-Union c.in-Union.parts ∙ ap (λ (l : List Part). union (plain_parts l)) (sym c.as_slice-in-Union.ensures) in
    let size = ap weight is in (omega (arith, size, c.decreases), tt)

pub Tokens::take_element-take_stream-requires : goal.Tokens::take_element-take_stream-requires
Tokens::take_element-take_stream-requires t c =
    let size = ap (λ l. weight (plain l)) c.in-Stream.is ∙ ap weight (plain-Stream c.in-Stream.stream) in
    let inner = ap (λ s. weight (plain s.element)) c.get.ensures in
    let depth = ap (λ s. s.dims) c.get.ensures in
    (omega (arith, size, inner, depth, c.decreases), tt)

pub Tokens::take_element-returns-in-Group : goal.Tokens::take_element-returns-in-Group
Tokens::take_element-returns-in-Group t c =
    let is : plain c.args.ltype.now ≡ group (plain_parts c.as_slice.result.now) =
    ap plain c.in-Group.is ∙ plain-Group c.in-Group.parts ∙ ap (λ (l : List Part). group (plain_parts l)) (sym c.as_slice.ensures) in
    subst (λ t. Reads (element t c.args.self.now) c.take_group.result c.take_group.new.self) (sym is) c.take_group.ensures

pub Tokens::take_element-returns-in-Union : goal.Tokens::take_element-returns-in-Union
Tokens::take_element-returns-in-Union t c =
    let is : plain c.args.ltype.now ≡ union (plain_parts c.as_slice-in-Union.result.now) =
    ap plain c.in-Union.is ∙ plain-Union c.in-Union.parts ∙ ap (λ (l : List Part). union (plain_parts l)) (sym c.as_slice-in-Union.ensures) in
    subst (λ t. Reads (element t c.args.self.now) c.take_union.result c.take_union.new.self) (sym is) c.take_union.ensures

pub Tokens::take_fields-take_field-requires : goal.Tokens::take_fields-take_field-requires
Tokens::take_fields-take_field-requires t c =
    let part = part_weight c.args.parts.now c.parts.part-index c.part-item.result c.parts-test.true c.part-item.is in (omega (arith, part, c.decreases), tt)

pub Tokens::take_members-repeated-requires-clause-less : goal.Tokens::take_members-repeated-requires-clause-less
Tokens::take_members-repeated-requires-clause-less t c =
    λ p q a k. reads-less (less-next _ (less-nest _ c.args.depth (less-element (plain c.args.element.now)))) p.now q.now a k

pub Tokens::take_members-returns-in_err-members : goal.Tokens::take_members-returns-in_err-members
unfolding listed_values repeated
Tokens::take_members-returns-in_err-members t c =
    let made = rw c.room_for_one.ensures at (c.repeated.ensures (next_value (nest (element (plain c.args.element.now)) c.args.depth)) (is_byte 93) false (λ p b k. search rules) (λ p q a k. search rules)
    (less-next _ (less-nest _ c.args.depth (less-element (plain c.args.element.now))))) in
    first_of (search rules, grind (arith, common_steps))

pub Tokens::take_members-returns-in_err-take_byte : goal.Tokens::take_members-returns-in_err-take_byte
unfolding listed_values repeated
Tokens::take_members-returns-in_err-take_byte t c =
    let made = rw c.room_for_one.ensures at (c.repeated.ensures (next_value (nest (element (plain c.args.element.now)) c.args.depth)) (is_byte 93) false (λ p b k. search rules) (λ p q a k. search rules)
    (less-next _ (less-nest _ c.args.depth (less-element (plain c.args.element.now))))) in
    first_of (search rules, grind (arith, common_steps))

pub Tokens::take_members-returns : goal.Tokens::take_members-returns
unfolding listed_values repeated
Tokens::take_members-returns t c =
    let made = rw c.room_for_one.ensures at (c.repeated.ensures (next_value (nest (element (plain c.args.element.now)) c.args.depth)) (is_byte 93) false (λ p b k. search rules) (λ p q a k. search rules)
    (less-next _ (less-nest _ c.args.depth (less-element (plain c.args.element.now))))) in
    first_of (search rules, grind (arith, common_steps))

pub Tokens::take_nest-returns-in-Some : goal.Tokens::take_nest-returns-in-Some
Tokens::take_nest-returns-in-Some t c = rw (c.in-Some.ensures.0, c.in-Some.ensures.1) c.take_words.ensures

pub Tokens::take_nest-returns-in-None : goal.Tokens::take_nest-returns-in-None
Tokens::take_nest-returns-in-None t c = let deeper : c.args.depth ≡ suc (c.args.depth - 1) = omega arith in rw deeper c.take_list.ensures

pub Tokens::take_variant-take_selected-requires : goal.Tokens::take_variant-take_selected-requires
Tokens::take_variant-take_selected-requires t c =
    let part = part_weight c.args.parts.now c.parts.part-index c.part-item.result c.parts-test.true c.part-item.is in (omega (arith, part, c.decreases), tt)
