use Rattle.std.proofs.Common.{◌≡◌, ℕ, List, refl, ap, sym, ◌∙◌, subst, arith}
use Rattle.logical_types.specs.declared.ltype.Part.{Part}
use Rattle.logical_types.specs.Tree.{Ltype, group, union, plain, plain_parts}
use Rattle.logical_types.proofs.PlainLemmas.{plain-Group, plain-Union}
use Rattle.type_split.specs.Found.{IsFound}
use Rattle.type_split.specs.Splitting.{Splits}
use Rattle.type_split.proofs.SplitLemmas.{CanSplit-group, CanSplit-union, AreLeft-step, AreLeft-none, stream-added}
use Rattle.type_split.proofs.splitting.Splitting.+split.Goals as goal

pub add_type-returns-in-Group : goal.add_type-returns-in-Group
add_type-returns-in-Group t c =
    let is : plain c.args.ltype.now ≡ group (plain_parts c.as_slice.result.now) =
    ap plain c.in-Group.is ∙ plain-Group c.in-Group.parts ∙ ap (λ (l : List Part). group (plain_parts l)) (sym c.as_slice.ensures) in
    subst (λ (t : Ltype). Splits c.args.self.now c.add_parts.new.self c.add_parts.result c.args.place.now t) (sym is)
    (λ can. c.add_parts.ensures (CanSplit-group c.args.self.now c.args.place.now (plain_parts c.as_slice.result.now) _ can))

pub add_type-returns-in-Union : goal.add_type-returns-in-Union
add_type-returns-in-Union t c =
    let is : plain c.args.ltype.now ≡ union (plain_parts c.as_slice-in-Union.result.now) =
    ap plain c.in-Union.is ∙ plain-Union c.in-Union.parts ∙ ap (λ (l : List Part). union (plain_parts l)) (sym c.as_slice-in-Union.ensures) in
    subst (λ (t : Ltype). Splits c.args.self.now c.add_parts-in-Union.new.self c.add_parts-in-Union.result c.args.place.now t) (sym is)
    (λ can. c.add_parts-in-Union.ensures (CanSplit-union c.args.self.now c.args.place.now (plain_parts c.as_slice-in-Union.result.now) _ can))

pub add_parts-parts-preserved : goal.add_parts-parts-preserved
add_parts-parts-preserved t c = λ can.
    AreLeft-step c.args.self.now c.parts.self c.add_part.new.self c.args.place.now c.args.parts.now c.parts.part-index c.part-item.result c.parts-test.true c.part-item.is can (c.parts.invariant can) c.in_ok-add_part.ensures

pub add_parts-returns : goal.add_parts-returns
add_parts-returns t c = λ can.
    AreLeft-none c.args.self.now c.parts.self c.args.place.now c.args.parts.now c.parts.part-index c.parts-test.false (c.parts.invariant can)

pub add_stream-returns : goal.add_stream-returns
add_stream-returns t c = λ can.
    let added = stream-added c.args.self.now c.add_node.new.self c.add_type.new.self c.args.place.now c.args.stream.now c.in-Some.found
    (subst (λ (n : ℕ). IsFound c.args.stream.now c.args.place.now n c.in-Some.found) c.len.ensures c.in-Some.ensures.found) (c.in-Some.ensures.flows can.valid can.flows) can
    (c.in_ok-add_node.ensures (omega (arith, can.nodes, can.streams))) c.in_ok-add_type.ensures in
    record { names = added.names; nodes = added.nodes; physical = added.physical; clash_is = added.clash_is; taken_is = refl }
