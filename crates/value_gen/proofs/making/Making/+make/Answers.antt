use Rattle.std.proofs.Common.{◌≡◌, ◌∙◌, [], List, refl, sym, ap, subst, arith}
use Rattle.logical_types.specs.declared.ltype.Part.{Part}
use Rattle.logical_types.specs.Tree.{Ltype, group, plain, plain_parts, union}
use Rattle.logical_value.specs.declared.value.Value.{Value}
use Rattle.logical_types.proofs.PlainLemmas.{plain-Group, plain-Union}
use Rattle.value_gen.specs.Draws.{Drawn, Makes, times}
use Rattle.value_gen.specs.Leaves.{Fills, leaves, leaves_of_all}
use Rattle.value_gen.specs.Made.{element, fields, nest, parts_drawn, selected}
use Rattle.value_gen.proofs.MadeLemmas.{selected-so, union-so, within-so}
use Rattle.value_gen.proofs.RoomLemmas.{all-more, failed, fields-fails, fields-next, group-fails, group-fills, list-fills, nest-fails, some-parts, times-fails, times-next, variant-fails, variant-fills}
use Rattle.value_gen.proofs.Weights.{part_weight, weight}
use Rattle.value_gen.proofs.making.Making.+make.Goals as goal

pub element-group-requires : goal.element-group-requires
element-group-requires t c =
    let is : plain c.args.ltype.now ≡ group (plain_parts c.as_slice.result.now) =
    ap plain c.in-Group.is ∙ plain-Group c.in-Group.parts ∙ ap (λ (l : List Part). group (plain_parts l)) (sym c.as_slice.ensures) in
    let size = ap weight is in (omega (arith, size, c.decreases), tt)

pub element-union-requires : goal.element-union-requires
element-union-requires t c =
    let is : plain c.args.ltype.now ≡ union (plain_parts c.as_slice-in-Union.result.now) =
    ap plain c.in-Union.is ∙ plain-Union c.in-Union.parts ∙ ap (λ (l : List Part). union (plain_parts l)) (sym c.as_slice-in-Union.ensures) in
    let size = ap weight is in (omega (arith, size, c.decreases), tt)

pub element-returns-in-Group-clause-made : goal.element-returns-in-Group-clause-made
element-returns-in-Group-clause-made t c =
    let is : plain c.args.ltype.now ≡ group (plain_parts c.as_slice.result.now) =
    ap plain c.in-Group.is ∙ plain-Group c.in-Group.parts ∙ ap (λ (l : List Part). group (plain_parts l)) (sym c.as_slice.ensures) in
    subst (λ (t : Ltype). Makes (element t c.args.self.now.draws.last) c.group.result c.group.new.self.draws.last) (sym is) c.group.ensures.made

pub element-returns-in-Group-clause-fills : goal.element-returns-in-Group-clause-fills
element-returns-in-Group-clause-fills t c =
    let is : plain c.args.ltype.now ≡ group (plain_parts c.as_slice.result.now) =
    ap plain c.in-Group.is ∙ plain-Group c.in-Group.parts ∙ ap (λ (l : List Part). group (plain_parts l)) (sym c.as_slice.ensures) in
    subst (λ (t : Ltype). Fills leaves (element t c.args.self.now.draws.last) c.args.self.now.room c.group.new.self.room c.group.result) (sym is) c.group.ensures.fills

pub element-returns-in-Union-clause-made : goal.element-returns-in-Union-clause-made
element-returns-in-Union-clause-made t c =
    let is : plain c.args.ltype.now ≡ union (plain_parts c.as_slice-in-Union.result.now) =
    ap plain c.in-Union.is ∙ plain-Union c.in-Union.parts ∙ ap (λ (l : List Part). union (plain_parts l)) (sym c.as_slice-in-Union.ensures) in
    subst (λ (t : Ltype). Makes (element t c.args.self.now.draws.last) c.union.result c.union.new.self.draws.last) (sym is) c.union.ensures.made

pub element-returns-in-Union-clause-fills : goal.element-returns-in-Union-clause-fills
element-returns-in-Union-clause-fills t c =
    let is : plain c.args.ltype.now ≡ union (plain_parts c.as_slice-in-Union.result.now) =
    ap plain c.in-Union.is ∙ plain-Union c.in-Union.parts ∙ ap (λ (l : List Part). union (plain_parts l)) (sym c.as_slice-in-Union.ensures) in
    subst (λ (t : Ltype). Fills leaves (element t c.args.self.now.draws.last) c.args.self.now.room c.union.new.self.room c.union.result) (sym is) c.union.ensures.fills

pub fields-element-requires : goal.fields-element-requires
fields-element-requires t c =
    let part = part_weight c.args.parts.now c.parts.part-index c.part-item.result c.parts-test.true c.part-item.is in (omega (arith, part, c.decreases), tt)

pub fields-parts-preserved : goal.fields-parts-preserved
fields-parts-preserved t c = record {
  made = fields-next c.args.parts.now c.parts.part-index c.part-item.result c.parts.fields c.parts.self.draws.last c.in_ok-value.value c.element.new.self.draws.last c.push.new.self _
      c.parts-test.true c.part-item.is c.in_ok-value.ensures.made c.in_ok-push.ensures.ok c.parts.invariant.made;
  room = omega (arith, all-more c.parts.fields c.in_ok-value.value, ap leaves_of_all c.in_ok-push.ensures.ok, c.in_ok-value.ensures.fills, c.parts.invariant.room);
}

pub fields-returns-in_err-value-clause-fills : goal.fields-returns-in_err-value-clause-fills
fields-returns-in_err-value-clause-fills t c =
    failed leaves_of_all (fields (plain_parts c.args.parts.now) [] c.args.self.now.draws.last) c.args.self.now.room _ c.from_residual-in_err-value.result c.in_err-value.field-0.0 c.from_residual-in_err-value.ensures.1
    (fields-fails c.args.parts.now c.parts.part-index c.part-item.result c.parts.fields c.parts.self.draws.last c.args.self.now.draws.last c.parts.self.room c.args.self.now.room
    c.element.new.self.room c.element.new.self.room c.in_err-value.field-0.0 c.parts-test.true c.part-item.is c.parts.invariant.made c.parts.invariant.room c.in_err-value.ensures.fills)

pub group-returns-clause-fills : goal.group-returns-clause-fills
group-returns-clause-fills t c =
    group-fills c.args.parts.now c.args.self.now.draws.last c.in_ok-fields.fields c.fields.new.self.draws.last c.fields.new.self.room c.args.self.now.room (some-parts c.args.parts.now (sym c.is_empty.ensures ∙ c.if-is_empty.false)) c.in_ok-fields.ensures.made
    c.in_ok-fields.ensures.fills

pub group-returns-in_err-fields-clause-fills : goal.group-returns-in_err-fields-clause-fills
group-returns-in_err-fields-clause-fills t c =
    failed leaves (element (group (plain_parts c.args.parts.now)) c.args.self.now.draws.last) c.args.self.now.room _ c.from_residual.result c.in_err-fields.field-0.0 c.from_residual.ensures.1
    (group-fails c.args.parts.now c.args.self.now.draws.last c.args.self.now.room c.fields.new.self.room c.fields.new.self.room c.in_err-fields.field-0.0 (some-parts c.args.parts.now (sym c.is_empty.ensures ∙ c.if-is_empty.false)) c.in_err-fields.ensures.fills)

pub union-returns-clause-made : goal.union-returns-clause-made
union-returns-clause-made t c =
    union-so (λ (d : Drawn Value). Makes d c.variant.result c.variant.new.self.draws.last) c.args.parts.now _ c.draw.result c.from.result c.args.self.now.draws.last c.draw.new.self.last
    c.from.ensures refl c.draw.ensures.value c.draw.ensures.last c.variant.ensures.made

pub union-returns-clause-fills : goal.union-returns-clause-fills
union-returns-clause-fills t c =
    union-so (λ (d : Drawn Value). Fills leaves d c.args.self.now.room c.variant.new.self.room c.variant.result) c.args.parts.now _ c.draw.result c.from.result c.args.self.now.draws.last
    c.draw.new.self.last c.from.ensures refl c.draw.ensures.value c.draw.ensures.last c.variant.ensures.fills

pub variant-element-requires : goal.variant-element-requires
variant-element-requires t c =
    let part = part_weight c.args.parts.now c.args.number c.in-Some.part.now
    (within-so c.args.parts.now c.args.number c.in-Some.ensures.lookup.0) c.in-Some.ensures.lookup.1 in (omega (arith, part, c.decreases), tt)

pub variant-returns-in_ok-new-in-Some-clause-made : goal.variant-returns-in_ok-new-in-Some-clause-made
variant-returns-in_ok-new-in-Some-clause-made t c =
    selected-so c.args.parts.now c.args.number c.in-Some.part.now c.args.self.now.draws.last c.in_ok-value-in-Some.value c.in_ok-new-in-Some.field-0
    c.element.new.self.draws.last
    (within-so c.args.parts.now c.args.number c.in-Some.ensures.lookup.0) c.in-Some.ensures.lookup.1 c.in_ok-value-in-Some.ensures.made c.in_ok-new-in-Some.ensures

pub variant-returns-in_ok-new-in-Some-clause-fills : goal.variant-returns-in_ok-new-in-Some-clause-fills
variant-returns-in_ok-new-in-Some-clause-fills t c =
    variant-fills c.args.number c.in_ok-value-in-Some.value c.in_ok-new-in-Some.field-0 c.element.new.self.room c.args.self.now.room c.in_ok-new-in-Some.ensures c.in_ok-value-in-Some.ensures.fills

pub variant-returns-in_err-value-in-Some-clause-fills : goal.variant-returns-in_err-value-in-Some-clause-fills
variant-returns-in_err-value-in-Some-clause-fills t c =
    failed leaves (selected c.args.number (plain_parts c.args.parts.now) c.args.self.now.draws.last) c.args.self.now.room _ c.from_residual.result c.in_err-value-in-Some.field-0.0
    c.from_residual.ensures.1
    (variant-fails c.args.parts.now c.args.number c.in-Some.part.now c.args.self.now.draws.last c.args.self.now.room c.element.new.self.room c.element.new.self.room
    c.in_err-value-in-Some.field-0.0 (within-so c.args.parts.now c.args.number c.in-Some.ensures.lookup.0) c.in-Some.ensures.lookup.1 c.in_err-value-in-Some.ensures.fills)

pub nest-returns-clause-fills : goal.nest-returns-clause-fills
nest-returns-clause-fills t c = list-fills c.in_ok-members.members c.nests.new.self.room c.args.self.now.room c.in_ok-members.ensures.fills

pub nest-returns-in_err-members-clause-fills : goal.nest-returns-in_err-members-clause-fills
nest-returns-in_err-members-clause-fills t c =
    failed leaves (nest (element (plain c.args.element.now)) c.args.depth c.args.self.now.draws.last) c.args.self.now.room _ c.from_residual.result c.in_err-members.field-0.0 c.from_residual.ensures.1
    (nest-fails (element (plain c.args.element.now)) c.args.depth _ _ c.args.self.now.draws.last c.draw.new.self.last c.args.self.now.room c.nests.new.self.room c.nests.new.self.room
    c.in_err-members.field-0.0 (omega arith) refl (ap parts_drawn c.draw.ensures.value) (c.draw.ensures.last ∙ c.draw.ensures.value) c.in_err-members.ensures.fills)

pub nests-nests-preserved : goal.nests-nests-preserved
nests-nests-preserved t c = record {
  made = times-next (nest (element (plain c.args.element.now)) c.args.depth) c.nests.left c.nests.found c.nests.self.draws.last c.in_ok-member.member c.nest.new.self.draws.last c.push.new.self _
      (omega arith) c.in_ok-member.ensures.made c.in_ok-push.ensures.ok c.nests.invariant.made;
  room = omega (arith, all-more c.nests.found c.in_ok-member.member, ap leaves_of_all c.in_ok-push.ensures.ok, c.in_ok-member.ensures.fills, c.nests.invariant.room);
}

pub nests-returns-in_err-member-clause-fills : goal.nests-returns-in_err-member-clause-fills
nests-returns-in_err-member-clause-fills t c =
    failed leaves_of_all (times c.args.count (nest (element (plain c.args.element.now)) c.args.depth) [] c.args.self.now.draws.last) c.args.self.now.room _ c.from_residual-in_err-member.result
    c.in_err-member.field-0.0 c.from_residual-in_err-member.ensures.1
    (times-fails (nest (element (plain c.args.element.now)) c.args.depth) c.nests.left c.args.count c.nests.found c.nests.self.draws.last c.args.self.now.draws.last c.nests.self.room
    c.args.self.now.room c.nest.new.self.room c.nest.new.self.room c.in_err-member.field-0.0 (omega arith) c.nests.invariant.made c.nests.invariant.room c.in_err-member.ensures.fills)
