use Rattle.std.proofs.Common.{◌≡◌, ◌∙◌, ◌+◌, List, drop, ap, sym, subst, arith, refl}
use Rattle.std.specs.Prelude.{IfOk}
use Rattle.logical_types.specs.declared.ltype.Part.{Part}
use Rattle.logical_types.specs.Tree.{Ltype, group, union, plain, plain_parts, plain_of_stream}
use Rattle.logical_value.proofs.FitLemmas.{size_of, part_size}
use Rattle.logical_types.proofs.PlainLemmas.{plain-Null, plain-Bits, plain-Group, plain-Union, plain-Stream, plain_parts-at, plain_parts-past}
use Rattle.type_split.specs.Nodes.{number_of_streams, streams_in_parts}
use Rattle.logical_value.specs.Tree.{Tree, plain as plain_value, plain_values}
use Rattle.value_views.specs.declared.filling.Filling.{Filling}
use Rattle.value_views.specs.Taking.{Waits, IsTaken, left}
use Rattle.value_views.proofs.SlotLemmas.{changed-slot, placed_fields-start, placed_fields-done, placed_fields-next, group-filled}
use Rattle.value_views.proofs.StreamlessLemmas.{nothing-filled}
use Rattle.value_views.proofs.TakingLemmas.{variant_here, variant_next}
use Rattle.value_views.proofs.filling.Filling.+fill.Goals as goal

pub fill-fill_group-requires : goal.fill-fill_group-requires
fill-fill_group-requires t c =
    let is : plain c.args.ltype.now ≡ group (plain_parts c.as_slice.result.now) =
    ap plain c.in-Group.is ∙ plain-Group c.in-Group.parts ∙ ap (λ (l : List Part). group (plain_parts l)) (sym c.as_slice.ensures) in
    let count = ap number_of_streams is in
    let size = ap size_of is in
    (omega (arith, size, c.decreases), omega (arith, count, c.requires.few))

pub fill-returns-in-Null : goal.fill-returns-in-Null
fill-returns-in-Null t c = λ value more waits.
    nothing-filled (left c.args.self.now) c.args.number (plain c.args.ltype.now) (plain_value c.args.one) value more (ap number_of_streams (ap plain c.in-Null.is ∙ plain-Null)) waits

pub fill-returns-in-Bits : goal.fill-returns-in-Bits
fill-returns-in-Bits t c = λ value more waits.
    nothing-filled (left c.args.self.now) c.args.number (plain c.args.ltype.now) (plain_value c.args.one) value more
    (ap number_of_streams (ap plain c.in-Bits.is ∙ plain-Bits c.in-Bits.field-0)) waits

pub fill-returns-in-Group : goal.fill-returns-in-Group
fill-returns-in-Group t c = λ value more waits.
    let is : plain c.args.ltype.now ≡ group (plain_parts c.as_slice.result.now) =
    ap plain c.in-Group.is ∙ plain-Group c.in-Group.parts ∙ ap (λ (l : List Part). group (plain_parts l)) (sym c.as_slice.ensures) in
    subst (λ (l : Ltype). IfOk c.fill_group.result (λ filled. (plain_value filled ≡ value) × IsTaken (left c.args.self.now) (left c.fill_group.new.self) c.args.number l more)) (sym is)
    (c.fill_group.ensures value more (subst (λ (l : Ltype). Waits (left c.args.self.now) c.args.number l (plain_value c.args.one) value more) is waits))

pub fill-returns-in-Stream : goal.fill-returns-in-Stream
fill-returns-in-Stream t c = λ value more waits.
    let is : plain c.args.ltype.now ≡ plain_of_stream c.get.result.now = ap plain c.in-Stream.is ∙ plain-Stream c.in-Stream.stream ∙ ap plain_of_stream (sym c.get.ensures) in
    subst (λ (l : Ltype). IfOk c.fill_stream.result (λ filled. (plain_value filled ≡ value) × IsTaken (left c.args.self.now) (left c.fill_stream.new.self) c.args.number l more)) (sym is)
    (c.fill_stream.ensures (plain_value c.args.one) value more (subst (λ (l : Ltype). Waits (left c.args.self.now) c.args.number l (plain_value c.args.one) value more) is waits))

pub fill_group-returns-in_ok-filled-in-Some : goal.fill_group-returns-in_ok-filled-in-Some
fill_group-returns-in_ok-filled-in-Some t c = λ value more waits.
    group-filled (left c.args.self.now) (left c.fill_fields.new.self) c.args.number (plain_parts c.args.parts.now) (plain_value c.args.one) (plain_values c.in-Some.fields) value more
    c.in_ok-filled-in-Some.filled c.in-Some.ensures waits c.in_ok-filled-in-Some.ensures

pub fill_fields-fill-requires : goal.fill_fields-fill-requires
fill_fields-fill-requires t c =
    let count = ap streams_in_parts (plain_parts-at c.args.parts.now c.parts.part-index c.part-item.result c.parts-test.true c.part-item.is) in
    let size = part_size c.args.parts.now c.parts.part-index c.part-item.result c.parts-test.true c.part-item.is in
    (omega (arith, size, c.decreases), omega (arith, count, c.parts.invariant.few))

pub fill_fields-parts-init : goal.fill_fields-parts-init
fill_fields-parts-init t c = record {
  place = refl;
  few = c.requires.few;
  rest = λ some more waits. placed_fields-start (left c.args.self.now) c.args.number (plain_parts c.args.parts.now) c.args.fields some more waits;
}

pub fill_fields-parts-preserved : goal.fill_fields-parts-preserved
fill_fields-parts-preserved t c =
    let is = plain_parts-at c.args.parts.now c.parts.part-index c.part-item.result c.parts-test.true c.part-item.is in
    let count = ap streams_in_parts is in
    let changed = changed-slot c.parts.filled c.take_at.new.ones c.put_at.new.ones c.parts.at c.in-Some.field _ c.in_ok-value.value c.in-Some.ensures.0 c.in-Some.ensures.1 c.in-Some.ensures.2 c.put_at.ensures in
    let place = c.parts.invariant.place in
    record {
      place = omega (arith, place);
      few = omega (arith, count, c.parts.invariant.few, c.number_of_streams-next.ensures);
      rest = λ some more waits.
          placed_fields-next (left c.args.self.now) (left c.parts.self) (left c.fill.new.self) c.args.number c.parts.next (c.parts.next + c.number_of_streams-next.result)
          (plain_parts c.args.parts.now) (plain_parts (drop c.parts.part-index c.args.parts.now)) (plain_parts (drop (c.parts.part-index + 1) c.args.parts.now))
          c.part-item.result.name (plain c.part-item.result.ltype) c.parts.filled c.put_at.new.ones c.parts.at c.in-Some.field c.in_ok-value.value some more is
          (omega (arith, count, c.parts.invariant.few, c.number_of_streams-next.ensures)) changed c.in_ok-value.ensures (c.parts.invariant.rest some more waits);
    }

pub fill_fields-returns : goal.fill_fields-returns
fill_fields-returns t c = λ some more waits.
    placed_fields-done (left c.args.self.now) (left c.parts.self) c.args.number c.parts.next (plain_parts c.args.parts.now) (plain_parts (drop c.parts.part-index c.args.parts.now)) c.parts.filled c.parts.at
    some more (plain_parts-past c.args.parts.now c.parts.part-index c.parts-test.false) (c.parts.invariant.rest some more waits)

pub fill-fill_union-requires : goal.fill-fill_union-requires
fill-fill_union-requires t c =
    let is : plain c.args.ltype.now ≡ union (plain_parts c.as_slice-in-Union.result.now) =
    ap plain c.in-Union.is ∙ plain-Union c.in-Union.parts ∙ ap (λ (l : List Part). union (plain_parts l)) (sym c.as_slice-in-Union.ensures) in
    let count = ap number_of_streams is in
    let size = ap size_of is in
    (omega (arith, size, c.decreases), omega (arith, count, c.requires.few))

pub fill-returns-in-Union : goal.fill-returns-in-Union
fill-returns-in-Union t c = λ value more waits.
    let is : plain c.args.ltype.now ≡ union (plain_parts c.as_slice-in-Union.result.now) =
    ap plain c.in-Union.is ∙ plain-Union c.in-Union.parts ∙ ap (λ (l : List Part). union (plain_parts l)) (sym c.as_slice-in-Union.ensures) in
    subst (λ (l : Ltype). IfOk c.fill_union.result (λ filled. (plain_value filled ≡ value) × IsTaken (left c.args.self.now) (left c.fill_union.new.self) c.args.number l more)) (sym is)
    (c.fill_union.ensures value more (subst (λ (l : Ltype). Waits (left c.args.self.now) c.args.number l (plain_value c.args.one) value more) is waits))

pub fill_variant-fill-requires : goal.fill_variant-fill-requires
fill_variant-fill-requires t c =
    let count = ap streams_in_parts (plain_parts-at c.args.parts.now c.parts.part-index c.part-item.result c.parts-test.true c.part-item.is) in
    let size = part_size c.args.parts.now c.parts.part-index c.part-item.result c.parts-test.true c.part-item.is in
    (omega (arith, size, c.decreases), omega (arith, count, c.parts.invariant.few))

pub fill_variant-returns-then-rest-eq0 : goal.fill_variant-returns-then-rest-eq0
fill_variant-returns-then-rest-eq0 t c = λ value more waits.
    variant_here (left c.args.self.now) (left c.fill.new.self) c.args.number c.parts.next (plain_parts c.args.parts.now) (plain_parts (drop c.parts.part-index c.args.parts.now))
    (plain_parts (drop (c.parts.part-index + 1) c.args.parts.now)) c.part-item.result.name (plain c.part-item.result.ltype) c.parts.rest (plain_value c.args.one) value more c.fill.result
    (plain_parts-at c.args.parts.now c.parts.part-index c.part-item.result c.parts-test.true c.part-item.is) c.if-rest-eq0.true (c.parts.invariant.left value more waits)
    (subst (λ (s : Filling). (v : Tree) (m : List Tree) → Waits (left s) c.parts.next (plain c.part-item.result.ltype) (plain_value c.args.one) v m
    → IfOk c.fill.result (λ filled. (plain_value filled ≡ v) × IsTaken (left s) (left c.fill.new.self) c.parts.next (plain c.part-item.result.ltype) m)) c.parts.invariant.same c.fill.ensures)

pub fill_variant-parts-preserved : goal.fill_variant-parts-preserved
fill_variant-parts-preserved t c =
    let is = plain_parts-at c.args.parts.now c.parts.part-index c.part-item.result c.parts-test.true c.part-item.is in
    let count = ap streams_in_parts is in
    record {
      same = c.parts.invariant.same;
      few = omega (arith, count, c.parts.invariant.few, c.number_of_streams-next.ensures);
      left = λ value more waits.
          variant_next (left c.args.self.now) c.args.number c.parts.next (c.parts.next + c.number_of_streams-next.result) (plain_parts c.args.parts.now)
          (plain_parts (drop c.parts.part-index c.args.parts.now)) (plain_parts (drop (c.parts.part-index + 1) c.args.parts.now)) c.part-item.result.name (plain c.part-item.result.ltype)
          c.parts.rest (plain_value c.args.one) value more is (omega (arith, count, c.parts.invariant.few, c.number_of_streams-next.ensures)) c.if-rest-eq0.false
          (c.parts.invariant.left value more waits);
    }
