use Rattle.std.proofs.Common.{take_all, ap, sym, ◌∙◌}
use Rattle.til_parser.specs.declared.ltype.AstType.{AstType}
use Rattle.til_parser.specs.Tree.{plain}
use Rattle.til_parser.proofs.PlainLemmas.{plain_parts, plain-Group, plain-Union}
use Rattle.til_resolve.specs.Declarations.{declaration}
use Rattle.til_resolve.specs.Folds.{fold_by, fold_by_list, names_in, written_names}
use Rattle.til_resolve.specs.Scope.{declarations_of}
use Rattle.til_resolve.specs.Shapes.{entry_named}
use Rattle.til_resolve.proofs.FoldLemmas.{fold_by-listed, fold_by_list-more, names-written}
use Rattle.til_resolve.proofs.folding.+value_in.Goals as goal

pub sum_in-parts-init : goal.sum_in-parts-init
sum_in-parts-init g k c = c.no_parts-sum.ensures

pub sum_in-parts-preserved : goal.sum_in-parts-preserved
sum_in-parts-preserved g k c =
    let all = declarations_of c.args.scope.now.declared in
    let layers = g.F.Fold.layers in
    let of = entry_named layers.of_null all c.args.table.now (declaration all c.args.number).space in
    c.and-sum.ensures ∙ ap (layers.of_part c.parts.sum) c.value_in-value.ensures
    ∙ ap (λ s. layers.of_part s (fold_by layers of (plain c.part-item.result.ltype))) c.parts.invariant
    ∙ sym (fold_by_list-more layers of layers.of_no_parts c.args.parts.now c.parts.part-index c.part-item.result c.parts-test.true c.part-item.is)

pub sum_in-returns : goal.sum_in-returns
sum_in-returns g k c =
    let all = declarations_of c.args.scope.now.declared in
    let layers = g.F.Fold.layers in
    let of = entry_named layers.of_null all c.args.table.now (declaration all c.args.number).space in
    c.parts.invariant ∙ ap (fold_by_list layers of layers.of_no_parts) (take_all c.parts.part-index c.args.parts.now c.parts-test.false)

pub value_in-returns-in-Group : goal.value_in-returns-in-Group
value_in-returns-in-Group g k c =
    let all = declarations_of c.args.scope.now.declared in
    let layers = g.F.Fold.layers in
    let of = entry_named layers.of_null all c.args.table.now (declaration all c.args.number).space in
    let sum = c.sum_in-sum.result in
    c.group.ensures
    ∙ ap (λ l. layers.of_group l sum) (ap written_names c.as_slice-in-Group.ensures ∙ sym (names-written c.in-Group.parts))
    ∙ ap (layers.of_group (names_in (plain_parts c.in-Group.parts)))
    (c.sum_in-sum.ensures ∙ ap (fold_by_list layers of layers.of_no_parts) c.as_slice.ensures ∙ sym (fold_by-listed layers of layers.of_no_parts c.in-Group.parts))
    ∙ ap (fold_by layers of) (sym (plain-Group c.in-Group.parts)) ∙ ap (λ (t : AstType). fold_by layers of (plain t)) (sym c.in-Group.is)

pub value_in-returns-in-Union : goal.value_in-returns-in-Union
value_in-returns-in-Union g k c =
    let all = declarations_of c.args.scope.now.declared in
    let layers = g.F.Fold.layers in
    let of = entry_named layers.of_null all c.args.table.now (declaration all c.args.number).space in
    let sum = c.sum_in-sum-in-Union.result in
    c.union.ensures
    ∙ ap (λ l. layers.of_union l sum) (ap written_names c.as_slice-in-Union-2.ensures ∙ sym (names-written c.in-Union.parts))
    ∙ ap (layers.of_union (names_in (plain_parts c.in-Union.parts)))
    (c.sum_in-sum-in-Union.ensures ∙ ap (fold_by_list layers of layers.of_no_parts) c.as_slice-in-Union.ensures ∙ sym (fold_by-listed layers of layers.of_no_parts c.in-Union.parts))
    ∙ ap (fold_by layers of) (sym (plain-Union c.in-Union.parts)) ∙ ap (λ (t : AstType). fold_by layers of (plain t)) (sym c.in-Union.is)
