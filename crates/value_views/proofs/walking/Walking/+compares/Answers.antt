use Rattle.std.proofs.Common.{◌+◌, ◌≡◌, ◌∙◌, ℕ, List, ap, arith, refl, subst, sym}
use Rattle.std.proofs.lemmas.List.{length-map}
use Rattle.std.proofs.lemmas.Result.{err_from_is_err_and}
use Rattle.logical_types.specs.declared.ltype.Part.{Part}
use Rattle.logical_types.specs.Tree.{Ltype, group, plain, plain_of_stream, plain_parts, settings_of, union}
use Rattle.logical_types.proofs.PlainLemmas.{plain-Group, plain-Stream, plain-Union, plain_parts-at, plain_parts-past}
use Rattle.logical_value.proofs.FitLemmas.{part_size, size_of}
use Rattle.type_split.specs.Streams.{node_view, plain_split}
use Rattle.value_views.specs.Giving.{plain_series}
use Rattle.value_views.specs.Walking.{Compares}
use Rattle.value_views.proofs.GivenNodeLemmas.{node-at}
use Rattle.value_views.proofs.WalkingLemmas.{group-can, inside-can, part-can, part-few, streams-added, parts-differ, parts-done, parts-next, parts-start, stream-compared, stream-differs, stream-dims, stream-within, union-can}
use Rattle.value_views.proofs.walking.Walking.+compares.Goals as goal

pub compare-compare_parts-requires : goal.compare-compare_parts-requires
compare-compare_parts-requires t c =
    let is : plain c.args.ltype.now ≡ group (plain_parts c.as_slice.result.now) =
    ap plain c.in-Group.is ∙ plain-Group c.in-Group.parts ∙ ap (λ (l : List Part). group (plain_parts l)) (sym c.as_slice.ensures) in
    let size = ap size_of is in
    (omega (arith, size, c.decreases), group-can _ _ c.args.around c.args.number c.args.dims (plain c.args.ltype.now) (plain_parts c.as_slice.result.now) is c.requires)

pub compare-compare_parts-requires-in-Union : goal.compare-compare_parts-requires-in-Union
compare-compare_parts-requires-in-Union t c =
    let is : plain c.args.ltype.now ≡ union (plain_parts c.as_slice-in-Union.result.now) =
    ap plain c.in-Union.is ∙ plain-Union c.in-Union.parts ∙ ap (λ (l : List Part). union (plain_parts l)) (sym c.as_slice-in-Union.ensures) in
    let size = ap size_of is in
    (omega (arith, size, c.decreases), union-can _ _ c.args.around c.args.number c.args.dims (plain c.args.ltype.now) (plain_parts c.as_slice-in-Union.result.now) is c.requires)

pub compare-returns-in-Group : goal.compare-returns-in-Group
compare-returns-in-Group t c =
    let is : plain c.args.ltype.now ≡ group (plain_parts c.as_slice.result.now) =
    ap plain c.in-Group.is ∙ plain-Group c.in-Group.parts ∙ ap (λ (l : List Part). group (plain_parts l)) (sym c.as_slice.ensures) in
    subst (λ (l : Ltype). Compares (plain_split c.args.self.now.split.now) (plain_series c.args.self.now.given.now) c.args.way.now c.compare_parts.new.way c.args.around c.args.number c.args.dims l
    c.compare_parts.result) (sym is) (λ placed. c.compare_parts.ensures (record { names = placed.names; place = placed.place; physical = placed.physical; around = placed.around; from = placed.from }))

pub compare-returns-in-Union : goal.compare-returns-in-Union
compare-returns-in-Union t c =
    let is : plain c.args.ltype.now ≡ union (plain_parts c.as_slice-in-Union.result.now) =
    ap plain c.in-Union.is ∙ plain-Union c.in-Union.parts ∙ ap (λ (l : List Part). union (plain_parts l)) (sym c.as_slice-in-Union.ensures) in
    subst (λ (l : Ltype). Compares (plain_split c.args.self.now.split.now) (plain_series c.args.self.now.given.now) c.args.way.now c.compare_parts-in-Union.new.way c.args.around c.args.number
    c.args.dims l c.compare_parts-in-Union.result) (sym is)
    (λ placed. c.compare_parts-in-Union.ensures (record { names = placed.names; place = placed.place; physical = placed.physical; around = placed.around; from = placed.from }))

pub compare-returns-in-Stream : goal.compare-returns-in-Stream
compare-returns-in-Stream t c =
    let is : plain c.args.ltype.now ≡ plain_of_stream c.get.result.now = ap plain c.in-Stream.is ∙ plain-Stream c.in-Stream.stream ∙ ap plain_of_stream (sym c.get.ensures) in
    subst (λ (l : Ltype). Compares (plain_split c.args.self.now.split.now) (plain_series c.args.self.now.given.now) c.args.way.now c.args.way.now c.args.around c.args.number c.args.dims l
    c.compare_stream.result) (sym is)
    (subst (λ (w : List _). Compares (plain_split c.args.self.now.split.now) (plain_series c.args.self.now.given.now) w w c.args.around c.args.number c.args.dims (plain_of_stream c.get.result.now)
    c.compare_stream.result) c.as_slice-in-Stream.ensures c.compare_stream.ensures)

pub compare_parts-parts-init : goal.compare_parts-parts-init
compare_parts-parts-init t c = record { at = refl; left = parts-start _ _ c.args.way.now c.args.around c.args.number c.args.dims (plain_parts c.args.parts.now) c.requires }

pub compare_parts-compare-requires : goal.compare_parts-compare-requires
compare_parts-compare-requires t c =
    let part = c.part-item.result in
    let is = plain_parts-at c.args.parts.now c.parts.part-index part c.parts-test.true c.part-item.is in
    let size = part_size c.args.parts.now c.parts.part-index part c.parts-test.true c.part-item.is in
    (omega (arith, size, c.decreases), part-can _ _ c.args.around c.parts.next c.args.dims _ part.name (plain part.ltype) _ is c.parts.invariant.left.can)

pub compare_parts-returns-in_err-compare : goal.compare_parts-returns-in_err-compare
compare_parts-returns-in_err-compare t c = λ placed.
    let part = c.part-item.result in
    let is = plain_parts-at c.args.parts.now c.parts.part-index part c.parts-test.true c.part-item.is in
    let p = err_from_is_err_and c.from_residual-in_err-compare.result c.from_residual-in_err-compare.ensures.1 in
    rw (p.1, p.2) (parts-differ (plain_split c.args.self.now.split.now) (plain_series c.args.self.now.given.now) c.args.way.now c.parts.way c.push.new.self c.args.around c.args.number c.parts.next
    c.args.dims c.parts.at (plain_parts c.args.parts.now) _ part.name (plain part.ltype) _ c.in_err-compare.field-0.0 is c.in_ok-push.ensures.ok c.in_err-compare.ensures c.parts.invariant.left placed)

pub compare_parts-parts-preserved : goal.compare_parts-parts-preserved
compare_parts-parts-preserved t c =
    let part = c.part-item.result in
    let is = plain_parts-at c.args.parts.now c.parts.part-index part c.parts-test.true c.part-item.is in
    record {
      at = ap (λ (n : ℕ). n + 1) c.parts.invariant.at;
      left = parts-next _ _ c.args.way.now c.parts.way c.push.new.self c.compare.new.way c.pop.new.self c.pop.result c.args.around c.args.number c.parts.next
          (c.parts.next + c.number_of_streams.result) c.args.dims c.parts.at (plain_parts c.args.parts.now) _ part.name (plain part.ltype) _ is c.in_ok-push.ensures.ok
          (streams-added (plain part.ltype) c.parts.next c.number_of_streams.result (part-few _ _ c.args.around c.parts.next c.args.dims _ part.name (plain part.ltype) _ is c.parts.invariant.left.can) c.number_of_streams.ensures)
          c.in_ok-compare.ensures c.pop.ensures c.parts.invariant.left;
    }

pub compare_parts-returns : goal.compare_parts-returns
compare_parts-returns t c = λ placed.
    parts-done _ _ c.args.way.now c.parts.way c.args.around c.args.number c.parts.next c.args.dims c.parts.at (plain_parts c.args.parts.now) _
    (plain_parts-past c.args.parts.now c.parts.part-index c.parts-test.false) c.parts.invariant.left placed

pub compare_stream-returns-in_err-check_stream : goal.compare_stream-returns-in_err-check_stream
compare_stream-returns-in_err-check_stream t c = λ placed.
    let p = err_from_is_err_and c.from_residual.result c.from_residual.ensures.1 in
    let stream = c.args.stream.now in
    rw (p.1, p.2) (stream-differs (plain_split c.args.self.now.split.now) (plain_series c.args.self.now.given.now) c.args.way.now c.args.around c.args.number c.args.dims (plain_of_stream stream)
    (plain stream.element) (plain stream.user) (settings_of stream) c.in_err-check_stream.field-0.0 refl c.in_err-check_stream.ensures placed)

pub compare_stream-compare-requires : goal.compare_stream-compare-requires
compare_stream-compare-requires t c =
    let stream = c.args.stream.now in
    let node = c.index-as_slice-number.result in
    let split = plain_split c.args.self.now.split.now in
    let count = length-map c.args.self.now.split.now.nodes node_view in
    let within = stream-within split c.args.number c.args.dims (plain stream.element) (plain stream.user) (settings_of stream) c.requires.placed in
    let found = node-at c.args.self.now.split.now c.args.number c.as_slice.result.now node c.as_slice.ensures (omega (arith, within, count))
    c.index-as_slice-number.is in
    let deep = c.dims_of-inner.ensures ∙ stream-dims split c.args.number c.args.dims (plain stream.element) (plain stream.user) (settings_of stream) (node_view node) found c.requires.placed in (
      omega (arith, c.decreases),
      inside-can split (plain_series c.args.self.now.given.now) c.args.around c.args.number c.args.dims c.dims_of-inner.result (plain stream.element) (plain stream.user)
          (settings_of stream) deep c.requires,
    )

pub compare_stream-returns : goal.compare_stream-returns
compare_stream-returns t c =
    let stream = c.args.stream.now in
    let node = c.index-as_slice-number.result in
    let split = plain_split c.args.self.now.split.now in
    let count = length-map c.args.self.now.split.now.nodes node_view in
    let within = stream-within split c.args.number c.args.dims (plain stream.element) (plain stream.user) (settings_of stream) c.requires.placed in
    let found = node-at c.args.self.now.split.now c.args.number c.as_slice.result.now node c.as_slice.ensures (omega (arith, within, count))
    c.index-as_slice-number.is in
    let deep = c.dims_of-inner.ensures ∙ stream-dims split c.args.number c.args.dims (plain stream.element) (plain stream.user) (settings_of stream) (node_view node) found c.requires.placed in
    stream-compared split (plain_series c.args.self.now.given.now) c.args.way.now c.compare.new.way c.args.around c.args.number c.args.dims c.dims_of-inner.result (plain_of_stream stream)
    (plain stream.element) (plain stream.user) (settings_of stream) c.compare.result refl deep c.requires c.in_ok-check_stream.ensures
    (subst (λ (w : List ℕ). Compares split (plain_series c.args.self.now.given.now) w c.compare.new.way c.args.number (c.args.number + 1) c.dims_of-inner.result (plain stream.element) c.compare.result)
    c.new-inside.ensures c.compare.ensures)
