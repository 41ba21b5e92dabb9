use Rattle.std.proofs.Common.{◌≡◌, ◌∙◌, ◌*◌, suc, List, if◌then◌else◌, codes, ap, sym, refl, arith}
use Rattle.std.specs.Prelude.{Bool}
use Rattle.std.proofs.lemmas.Result.{on_ok_weaker}
use Rattle.logical_types.specs.declared.ltype.Part.{Part}
use Rattle.logical_types.specs.Tree.{bits, group, null, union, plain, plain_of_stream, plain_parts}
use Rattle.logical_types.proofs.PlainLemmas.{plain-Bits, plain-Group, plain-Null, plain-Stream, plain-Union}
use Rattle.logical_value.specs.Tree as values
use Rattle.logical_value.specs.Tree.{plain as plain_value, plain_values}
use Rattle.logical_value.proofs.FitLemmas.{part_size, size_of}
use Rattle.value_text.specs.Canonical.{element_text, named_text, nest_text, variant_text}
use Rattle.value_text.specs.Inside.{tree_of}
use Rattle.value_text.specs.Items.{item_of, items_of}
use Rattle.value_text.specs.Pending.{number_of_values}
use Rattle.value_text.proofs.PendingLemmas.{begun-as, begun-none, begun-same, begun-whole, leaf-begun, list-begun, named-begun, no-variant, no_list-begun, nothing-begun, type-begun, values-some, variant-at, variant-none}
use Rattle.value_text.proofs.beginning.+begin.Goals as goal

-- ---- nests

pub begin_nest-begin_element-requires : goal.begin_nest-begin_element-requires
begin_nest-begin_element-requires t c = (omega (arith, c.decreases), tt)

pub begin_nest-returns-then-depth-eq0 : goal.begin_nest-returns-then-depth-eq0
begin_nest-returns-then-depth-eq0 t c = on_ok_weaker c.begin_element.result
    (leaf-begun (element_text (plain c.args.element.now)) c.args.depth (plain_value (item_of c.args.nest)) c.args.left.now c.begin_element.new.left c.args.out.now c.begin_element.new.out
    c.if-depth-eq0.true) c.begin_element.ensures

pub begin_nest-returns-in-List : goal.begin_nest-returns-in-List
begin_nest-returns-in-List t c = on_ok_weaker c.begin_list.result
    (list-begun (element_text (plain c.args.element.now)) c.args.depth (values.list (plain_values (items_of c.in-List.members))) (plain_value (item_of c.args.nest))
    c.args.left.now c.begin_list.new.left c.args.out.now c.begin_list.new.out c.if-depth-eq0.false c.in-List.ensures) c.begin_list.ensures

pub begin_nest-returns : goal.begin_nest-returns
begin_nest-returns t c = no_list-begun (element_text (plain c.args.element.now)) c.args.depth c.look_inside.result (plain_value (item_of c.args.nest)) c.args.left.now c.args.out.now
    c.if-depth-eq0.false c.in_default.not-List c.look_inside.ensures

-- ---- elements

pub begin_element-begin_union-requires : goal.begin_element-begin_union-requires
begin_element-begin_union-requires t c =
    let is : plain c.args.ltype.now ≡ union (plain_parts c.as_slice.result.now) =
    ap plain c.in-Union.is ∙ plain-Union c.in-Union.parts ∙ ap (λ (l : List Part). union (plain_parts l)) (sym c.as_slice.ensures) in
    let size = ap size_of is in (omega (arith, size, c.decreases), tt)

pub begin_element-begin_stream-requires : goal.begin_element-begin_stream-requires
begin_element-begin_stream-requires t c =
    let size = ap (λ l. size_of (plain l)) c.in-Stream.is ∙ ap size_of (plain-Stream c.in-Stream.stream) in
    let inner = ap (λ s. size_of (plain s.element)) c.get.ensures in
    (omega (arith, size, inner, c.decreases), tt)

pub begin_element-returns-in-Null : goal.begin_element-returns-in-Null
begin_element-returns-in-Null t c = on_ok_weaker c.emit.result (λ written.
    type-begun null (plain c.args.ltype.now) (plain_value (item_of c.args.value)) c.args.left.now c.args.left.now c.args.out.now c.emit.new.self (ap plain c.in-Null.is ∙ plain-Null)
    (begun-whole (codes "null") (3 * number_of_values (plain_value (item_of c.args.value))) c.args.left.now c.args.out.now c.emit.new.self written
    (omega (arith, values-some (plain_value (item_of c.args.value)))))) c.emit.ensures.ok

pub begin_element-returns-in-Bits : goal.begin_element-returns-in-Bits
begin_element-returns-in-Bits t c = on_ok_weaker c.begin_word.result
    (type-begun (bits c.in-Bits.width) (plain c.args.ltype.now) (plain_value (item_of c.args.value)) c.args.left.now c.begin_word.new._left c.args.out.now c.begin_word.new.out
    (ap plain c.in-Bits.is ∙ plain-Bits c.in-Bits.width)) c.begin_word.ensures

pub begin_element-returns-in-Group : goal.begin_element-returns-in-Group
begin_element-returns-in-Group t c = on_ok_weaker c.begin_group.result
    (type-begun (group (plain_parts c.in-Group.parts)) (plain c.args.ltype.now) (plain_value (item_of c.args.value)) c.args.left.now c.begin_group.new.left c.args.out.now c.begin_group.new.out
    (ap plain c.in-Group.is ∙ plain-Group c.in-Group.parts)) c.begin_group.ensures

pub begin_element-returns-in-Union : goal.begin_element-returns-in-Union
begin_element-returns-in-Union t c = on_ok_weaker c.begin_union.result
    (type-begun (union (plain_parts c.as_slice.result.now)) (plain c.args.ltype.now) (plain_value (item_of c.args.value)) c.args.left.now c.begin_union.new.left c.args.out.now c.begin_union.new.out
    (ap plain c.in-Union.is ∙ plain-Union c.in-Union.parts ∙ ap (λ (l : List Part). union (plain_parts l)) (sym c.as_slice.ensures))) c.begin_union.ensures

-- ---- variants

pub begin_union-returns-in-Union : goal.begin_union-returns-in-Union
begin_union-returns-in-Union t c = on_ok_weaker c.begin_variant.result
    (begun-same (element_text (union (plain_parts c.args.parts.now))) (values.union c.in-Union.tag (plain_value (item_of c.in-Union.part))) (plain_value (item_of c.args.value))
    c.args.left.now c.begin_variant.new.left c.args.out.now c.begin_variant.new.out c.in-Union.ensures) c.begin_variant.ensures

pub begin_union-returns : goal.begin_union-returns
begin_union-returns t c =
    nothing-begun (element_text (union (plain_parts c.args.parts.now))) (tree_of c.look_inside.result) (plain_value (item_of c.args.value)) c.args.left.now c.args.out.now c.look_inside.ensures
    (no-variant (plain_parts c.args.parts.now) c.look_inside.result c.in_default.not-Union)

pub begin_variant-begin_named-requires : goal.begin_variant-begin_named-requires
begin_variant-begin_named-requires t c = (omega (arith, part_size c.args.parts.now c.args.tag c.in-Some.part.now c.in-Some.ensures.lookup.3.0 c.in-Some.ensures.lookup.1, c.decreases), tt)

pub begin_variant-returns-in-Some : goal.begin_variant-returns-in-Some
begin_variant-returns-in-Some t c =
    let value = plain_value (item_of c.args.value) in
    on_ok_weaker c.begin_named.result
    (begun-as (named_text c.in-Some.part.now.name (element_text (plain c.in-Some.part.now.ltype) value)) (variant_text (plain_parts c.args.parts.now) c.args.tag value)
    (3 * suc (number_of_values value)) c.args.left.now c.begin_named.new.left c.args.out.now c.begin_named.new.out
    (variant-at c.args.parts.now c.args.tag value c.in-Some.part.now c.in-Some.ensures.lookup.3.0 c.in-Some.ensures.lookup.1)) c.begin_named.ensures

pub begin_variant-returns-in-None : goal.begin_variant-returns-in-None
begin_variant-returns-in-None t c =
    let value = plain_value (item_of c.args.value) in
    begun-none (variant_text (plain_parts c.args.parts.now) c.args.tag value) (3 * suc (number_of_values value)) c.args.left.now c.args.out.now
    (variant-none c.args.parts.now c.args.tag value c.in-None.ensures.lookup.3) (omega arith)

pub begin_named-returns : goal.begin_named-returns
begin_named-returns t c =
    let value = plain_value (item_of c.args.value) in
    on_ok_weaker c.begin_element.result
    (named-begun c.args.name.now (element_text (plain c.args.ltype.now) value) (number_of_values value) _ c.args.left.now c.push.new.self c.begin_element.new.left
    c.args.out.now c.emit.new.self c.begin_element.new.out refl refl c.in_ok-emit.ensures.ok c.in_ok-push.ensures.ok) c.begin_element.ensures

-- ---- Streams

pub begin_stream-returns-then-is_apart : goal.begin_stream-returns-then-is_apart
begin_stream-returns-then-is_apart t c =
    let value = plain_value (item_of c.args.value) in
    let stream = c.args.stream.now in
    on_ok_weaker c.emit.result (λ written. begun-as (codes "apart") (element_text (plain_of_stream stream) value) (3 * number_of_values value) c.args.left.now c.args.left.now
    c.args.out.now c.emit.new.self
    (ap (λ (b : Bool). if b then codes "apart" else nest_text (element_text (plain stream.element)) stream.dims value) (sym c.if-is_apart.true ∙ c.is_apart.ensures))
    (begun-whole (codes "apart") (3 * number_of_values value) c.args.left.now c.args.out.now c.emit.new.self written (omega (arith, values-some value)))) c.emit.ensures.ok

pub begin_stream-returns-else-is_apart : goal.begin_stream-returns-else-is_apart
begin_stream-returns-else-is_apart t c =
    let value = plain_value (item_of c.args.value) in
    let stream = c.args.stream.now in
    on_ok_weaker c.begin_nest.result (begun-as (nest_text (element_text (plain stream.element)) stream.dims value) (element_text (plain_of_stream stream) value)
    (3 * number_of_values value) c.args.left.now c.begin_nest.new.left c.args.out.now c.begin_nest.new.out
    (ap (λ (b : Bool). if b then codes "apart" else nest_text (element_text (plain stream.element)) stream.dims value) (sym c.if-is_apart.false ∙ c.is_apart.ensures))) c.begin_nest.ensures
