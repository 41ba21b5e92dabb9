use Rattle.std.proofs.Common.{◌≡◌, List, ap, sym, ◌∙◌, subst}
use Rattle.logical_types.specs.declared.ltype.Part.{Part}
use Rattle.logical_types.specs.Tree.{Ltype, group, union, plain, plain_parts}
use Rattle.logical_types.specs.Width.{width_of}
use Rattle.logical_types.proofs.PlainLemmas.{plain-Group, plain-Union}
use Rattle.split_text.specs.Fields.{fields_at}
use Rattle.split_text.specs.AddedFields.{Adds}
use Rattle.split_text.proofs.FieldLemmas.{AreLeft-step, AreLeft-none}
use Rattle.split_text.proofs.fields.Fields.+fields.Goals as goal

pub add_type-returns-in-Group : goal.add_type-returns-in-Group
add_type-returns-in-Group t c =
    let is : plain c.args.ltype.now ≡ group (plain_parts c.as_slice.result.now) =
    ap plain c.in-Group.is ∙ plain-Group c.in-Group.parts ∙ ap (λ (l : List Part). group (plain_parts l)) (sym c.as_slice.ensures) in
    subst (λ (t : Ltype). Adds c.args.self.now c.add_parts.new.self c.add_parts.result c.args.offset (width_of t) (fields_at c.args.self.now.names c.args.offset t)) (sym is) c.add_parts.ensures

pub add_type-returns-in-Union : goal.add_type-returns-in-Union
add_type-returns-in-Union t c =
    let is : plain c.args.ltype.now ≡ union (plain_parts c.as_slice-in-Union.result.now) =
    ap plain c.in-Union.is ∙ plain-Union c.in-Union.parts ∙ ap (λ (l : List Part). union (plain_parts l)) (sym c.as_slice-in-Union.ensures) in
    subst (λ (t : Ltype). Adds c.args.self.now c.add_union.new.self c.add_union.result c.args.offset (width_of t) (fields_at c.args.self.now.names c.args.offset t)) (sym is) c.add_union.ensures

pub add_parts-parts-preserved : goal.add_parts-parts-preserved
add_parts-parts-preserved t c = λ most.
    AreLeft-step c.args.self.now.names c.parts.self.names c.add_part.new.self.names _ c.parts.self.fields c.add_part.new.self.fields c.parts.end c.in_ok-end.end _ c.args.parts.now c.parts.part-index
    c.part-item.result c.parts-test.true c.part-item.is most (c.parts.invariant most)
    (λ fits. let added = c.in_ok-end.ensures fits in (added.ends, (added.names, added.fields)))

pub add_parts-returns : goal.add_parts-returns
add_parts-returns t c = λ most.
    let all = AreLeft-none c.args.self.now.names c.parts.self.names _ c.parts.self.fields c.parts.end _ c.args.parts.now c.parts.part-index c.parts-test.false (c.parts.invariant most) in
    record { ends = all.0; names = all.1.0; fields = all.1.1 }
