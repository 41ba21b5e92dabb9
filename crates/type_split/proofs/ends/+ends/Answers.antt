use Rattle.std.proofs.Common.{◌≡◌, List, ap, sym, ◌∙◌, subst}
use Rattle.logical_types.specs.declared.ltype.Part.{Part}
use Rattle.logical_types.specs.Tree.{Ltype, group, union, plain, plain_parts}
use Rattle.logical_types.proofs.PlainLemmas.{plain-Group, plain-Union}
use Rattle.type_split.specs.Ending.{AddsEnds}
use Rattle.type_split.proofs.EndLemmas.{AreLeft-step, AreLeft-past, node-added}
use Rattle.type_split.proofs.ends.+ends.Goals as goal

pub add_type-returns-in-Group : goal.add_type-returns-in-Group
add_type-returns-in-Group t c =
    let is : plain c.args.ltype.now ≡ group (plain_parts c.as_slice.result.now) =
    ap plain c.in-Group.is ∙ plain-Group c.in-Group.parts ∙ ap (λ (l : List Part). group (plain_parts l)) (sym c.as_slice.ensures) in
    subst (λ (t : Ltype). AddsEnds c.args.ends.now.items c.add_parts.new.ends.items c.add_parts.result t) (sym is) c.add_parts.ensures

pub add_type-returns-in-Union : goal.add_type-returns-in-Union
add_type-returns-in-Union t c =
    let is : plain c.args.ltype.now ≡ union (plain_parts c.as_slice-in-Union.result.now) =
    ap plain c.in-Union.is ∙ plain-Union c.in-Union.parts ∙ ap (λ (l : List Part). union (plain_parts l)) (sym c.as_slice-in-Union.ensures) in
    subst (λ (t : Ltype). AddsEnds c.args.ends.now.items c.add_parts-in-Union.new.ends.items c.add_parts-in-Union.result t) (sym is) c.add_parts-in-Union.ensures

pub add_parts-parts-preserved : goal.add_parts-parts-preserved
add_parts-parts-preserved t c = λ few.
    AreLeft-step c.args.ends.now.items c.parts.ends.items c.add_type.new.ends.items (plain_parts c.args.parts.now) c.args.parts.now c.parts.part-index c.part-item.result c.parts-test.true
    c.part-item.is few (c.parts.invariant few) c.in_ok-add_type.ensures

pub add_parts-returns : goal.add_parts-returns
add_parts-returns t c = λ few.
    AreLeft-past c.args.ends.now.items c.parts.ends.items (plain_parts c.args.parts.now) c.args.parts.now c.parts.part-index c.parts-test.false (c.parts.invariant few)

pub add_node-returns : goal.add_node-returns
add_node-returns t c = λ few.
    node-added c.args.ends.now.items c.push.new.self.items c.add_type.new.ends.items c.put.new.ends.items (plain c.args.element.now) c.len-number.result c.len.result c.number_of-end.result
    few (c.len-number.ensures ∙ c.args.ends.now.ok.0) c.in_ok-push.ensures.items c.in_ok-add_type.ensures (c.len.ensures ∙ c.add_type.new.ends.ok.0) c.number_of-end.ensures c.put.ensures
