use Rattle.std.proofs.Common.{◌≡◌, ◌∙◌, List, ap, sym, subst}
use Rattle.std.proofs.lemmas.Result.{err_from_is_err_and}
use Rattle.logical_types.specs.declared.ltype.Part.{Part}
use Rattle.logical_types.specs.Tree.{Ltype, group, union, plain, plain_parts}
use Rattle.logical_types.proofs.PlainLemmas.{plain-Group, plain-Union}
use Rattle.logical_value.specs.Tree as spec
use Rattle.logical_value.specs.Tree.{plain as plain_value}
use Rattle.logical_value.specs.Unpacking.{Reads}
use Rattle.logical_value.specs.declared.value.Value.TheVariants as values
use Rattle.logical_value.proofs.PlainLemmas.{plain-Group as plain_value-Group, plain-Union as plain_value-Union}
use Rattle.logical_value.proofs.UnpackingLemmas.{AreLeft-bad, AreLeft-step, AreLeft-past, IsAmong-step, bad-group, bad-union, read-group, read-union}
use Rattle.logical_value.proofs.unpacking.Unpacking.+unpacking.Goals as goal

pub read-returns-in_err-fields-in-Group : goal.read-returns-in_err-fields-in-Group
read-returns-in_err-fields-in-Group t c = λ can.
    let is : plain c.args.ltype.now ≡ group (plain_parts c.as_slice.result.now) =
    ap plain c.in-Group.is ∙ plain-Group c.in-Group.parts ∙ ap (λ (l : List Part). group (plain_parts l)) (sym c.as_slice.ensures) in
    let p = err_from_is_err_and c.from_residual.result c.from_residual.ensures.1 in
    let old = c.args.self.now in
    rw (p.1, p.2) (bad-group old (plain c.args.ltype.now) (plain_parts c.as_slice.result.now) c.in_err-fields-in-Group.field-0.0 is c.in_err-fields-in-Group.ensures can)

pub read-returns-in_ok-fields-in-Group : goal.read-returns-in_ok-fields-in-Group
read-returns-in_ok-fields-in-Group t c = λ can.
    let is : plain c.args.ltype.now ≡ group (plain_parts c.as_slice.result.now) =
    ap plain c.in-Group.is ∙ plain-Group c.in-Group.parts ∙ ap (λ (l : List Part). group (plain_parts l)) (sym c.as_slice.ensures) in
    let fields = c.in_ok-fields-in-Group.fields in
    read-group c.args.self.now c.read_fields.new.self (plain c.args.ltype.now) (plain_parts c.as_slice.result.now) fields (values.Group fields) is (plain_value-Group fields)
    c.in_ok-fields-in-Group.ensures can

pub read-returns-in-Union : goal.read-returns-in-Union
read-returns-in-Union t c =
    let is : plain c.args.ltype.now ≡ union (plain_parts c.as_slice-in-Union.result.now) =
    ap plain c.in-Union.is ∙ plain-Union c.in-Union.parts ∙ ap (λ (l : List Part). union (plain_parts l)) (sym c.as_slice-in-Union.ensures) in
    subst (λ (t : Ltype). Reads c.args.self.now c.read_union.new.self c.read_union.result t) (sym is) c.read_union.ensures

pub read_fields-returns-in_err-value : goal.read_fields-returns-in_err-value
read_fields-returns-in_err-value t c = λ can.
    let p = err_from_is_err_and c.from_residual-in_err-value.result c.from_residual-in_err-value.ensures.1 in
    rw (p.1, p.2) (AreLeft-bad c.args.self.now c.parts.self (plain_parts c.args.parts.now) c.parts.fields c.args.parts.now c.parts.part-index c.part-item.result c.in_err-value.field-0.0
    c.parts-test.true c.part-item.is (c.parts.invariant can) c.in_err-value.ensures)

pub read_union-returns-in_err-part : goal.read_union-returns-in_err-part
read_union-returns-in_err-part t c = λ can.
    let p = err_from_is_err_and c.from_residual-in_err-part.result c.from_residual-in_err-part.ensures.1 in
    rw (p.1, p.2) (bad-union c.args.self.now c.read_number.new.self c.args.parts.now c.index_width-width.result c.union_width.result c.saturating_sub-room.result c.in_ok-tag.tag
    c.in_err-part.field-0.0 c.index_width-width.ensures.value c.union_width.ensures c.saturating_sub-room.ensures c.in_ok-tag.ensures.read c.in_ok-tag.ensures.number
    c.in_err-part.ensures can)

pub read_union-returns : goal.read_union-returns
read_union-returns t c = λ can.
    read-union c.args.self.now c.read_number.new.self c.read_variant.new.self c.args.parts.now c.index_width-width.result c.union_width.result c.saturating_sub-room.result c.in_ok-tag.tag
    c.in_ok-part.part (values.Union c.in_ok-tag.tag c.in_ok-new.field-0) c.index_width-width.ensures.value c.union_width.ensures c.saturating_sub-room.ensures
    (plain_value-Union c.in_ok-tag.tag c.in_ok-new.field-0 ∙ ap (λ v. spec.union c.in_ok-tag.tag (plain_value v)) c.in_ok-new.ensures) c.in_ok-tag.ensures.read c.in_ok-tag.ensures.number c.in_ok-part.ensures can

pub read_fields-parts-preserved : goal.read_fields-parts-preserved
read_fields-parts-preserved t c = λ can.
    AreLeft-step c.args.self.now c.parts.self c.read_part.new.self (plain_parts c.args.parts.now) c.parts.fields c.push.new.self c.args.parts.now c.parts.part-index c.part-item.result
    c.in_ok-value.value c.parts-test.true c.part-item.is c.in_ok-push.ensures.ok (c.parts.invariant can) c.in_ok-value.ensures

pub read_fields-returns : goal.read_fields-returns
read_fields-returns t c = λ can.
    AreLeft-past c.args.self.now c.parts.self (plain_parts c.args.parts.now) c.parts.fields c.args.parts.now c.parts.part-index c.parts-test.false (c.parts.invariant can)

pub read_variant-parts-preserved : goal.read_variant-parts-preserved
read_variant-parts-preserved t c = λ can wide.
    IsAmong-step c.args.self.now c.parts.self (plain_parts c.args.parts.now) c.args.tag c.args.room c.args.parts.now c.parts.part-index c.part-item.result c.parts.left
    c.parts-test.true c.part-item.is c.if-left-eq0.false (c.parts.invariant can wide)
