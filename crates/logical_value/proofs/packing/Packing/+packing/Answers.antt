use Rattle.std.proofs.Common.{◌≡◌, ◌∙◌, List, ap, sym, subst}
use Rattle.std.proofs.lemmas.Result.{on_ok_weaker}
use Rattle.std.specs.Prelude.{OnOk}
use Rattle.logical_types.specs.declared.ltype.Part.{Part}
use Rattle.logical_types.specs.Tree.{Ltype, bits, group, union, plain, plain_parts}
use Rattle.logical_types.proofs.PlainLemmas.{plain-Bits, plain-Group, plain-Union}
use Rattle.logical_value.specs.Element.{IsElement}
use Rattle.logical_value.specs.Packed.{pack_of}
use Rattle.logical_value.specs.Packing.{Puts}
use Rattle.logical_value.specs.Tree.{plain as plain_value}
use Rattle.logical_value.specs.Tree.{plain_values}
use Rattle.logical_value.proofs.PackingLemmas.{Continues-step, Continues-past, Puts-selected}
use Rattle.logical_value.proofs.packing.Packing.+packing.Goals as goal

pub put-returns-in-Bits : goal.put-returns-in-Bits
put-returns-in-Bits k c =
    let is : plain c.args.ltype.now ≡ bits c.in-Bits.field-0 = ap plain c.in-Bits.is ∙ plain-Bits c.in-Bits.field-0 in
    let value = plain_value c.args.value.now in
    subst (λ (t : Ltype). IsElement t value → Puts c.args.self.now c.put_word.new.self (pack_of t value)) (sym is) (c.put_word.ensures c.in-Bits.field-0)

pub put-returns-in-Group : goal.put-returns-in-Group
put-returns-in-Group k c =
    let is : plain c.args.ltype.now ≡ group (plain_parts c.as_slice.result.now) =
    ap plain c.in-Group.is ∙ plain-Group c.in-Group.parts ∙ ap (λ (l : List Part). group (plain_parts l)) (sym c.as_slice.ensures) in
    let value = plain_value c.args.value.now in
    subst (λ (t : Ltype). IsElement t value → OnOk c.put_group.result (Puts c.args.self.now c.put_group.new.self (pack_of t value))) (sym is) c.put_group.ensures

pub put-returns-in-Union : goal.put-returns-in-Union
put-returns-in-Union k c =
    let is : plain c.args.ltype.now ≡ union (plain_parts c.as_slice-in-Union.result.now) =
    ap plain c.in-Union.is ∙ plain-Union c.in-Union.parts ∙ ap (λ (l : List Part). union (plain_parts l)) (sym c.as_slice-in-Union.ensures) in
    let value = plain_value c.args.value.now in
    subst (λ (t : Ltype). IsElement t value → OnOk c.put_union.result (Puts c.args.self.now c.put_union.new.self (pack_of t value))) (sym is) c.put_union.ensures

pub put_fields-parts-preserved : goal.put_fields-parts-preserved
put_fields-parts-preserved k c = λ are.
    Continues-step c.args.self.now c.parts.self c.put.new.self (plain_parts c.args.parts.now) (plain_values c.args.fields.now) c.args.parts.now c.parts.part-index c.part-item.result
    c.parts.left.now c.in-Some.more.now c.in-Some.value.now c.parts-test.true c.part-item.is c.in-Some.ensures.cases.0 (c.parts.invariant are) c.in_ok-put.ensures

pub put_fields-returns : goal.put_fields-returns
put_fields-returns k c = λ are.
    Continues-past c.args.self.now c.parts.self (plain_parts c.args.parts.now) (plain_values c.args.fields.now) c.args.parts.now c.parts.part-index c.parts.left.now c.parts-test.false
    (c.parts.invariant are)

pub put_selected-returns : goal.put_selected-returns
put_selected-returns k c = λ is.
    on_ok_weaker c.put_variant.result
    (λ puts. Puts-selected c.args.self.now c.put_number.new.self c.put_variant.new.self c.args.parts.now c.args.tag (plain_value c.args.value.now)
    c.index_width-width.result c.union_width.result c.saturating_sub-room.result c.index_width-width.ensures.value c.union_width.ensures c.saturating_sub-room.ensures
    c.in_ok-put_number.ensures (λ variant. puts) is)
    (c.put_variant.ensures is)
