use Rattle.std.proofs.Common.{◌∙◌, ap, arith, length, List, [], ◌<◌}
use Rattle.type_split.specs.declared.split.Node.{Node}
use Rattle.logical_value.specs.declared.value.Value.{Value}
use Rattle.value_views.proofs.SpellLemmas.{spelled-node}
use Rattle.value_views.proofs.ViewLemmas.{can-gather, ready, root-within}
use Rattle.value_views.proofs.spelling.root_items.Goals as goal

pub bounds-as_slice-root-2 : goal.bounds-as_slice-root-2
bounds-as_slice-root-2 c =
    let within = root-within c.args.split.now c.args.value.now c.args.number c.args.root [] c.requires.fits c.requires.leads in
    let long = ap (λ (l : List (List Value)). length l) c.as_slice-4.ensures in
    omega (arith, within, long)

pub offset_bounds-as_slice-root-2 : goal.offset_bounds-as_slice-root-2
offset_bounds-as_slice-root-2 c =
    let within = root-within c.args.split.now c.args.value.now c.args.number c.args.root [] c.requires.fits c.requires.leads in
    let long = ap (λ (l : List (List Value)). length l) c.as_slice-4.ensures in
    let less : c.args.root < length c.as_slice-4.result.now = omega (arith, within, long) in
    omega arith

pub spell-requires : goal.spell-requires
spell-requires c =
    can-gather c.args.split.now c.args.value.now c.args.number c.args.root [] _ c.own_dims-depth.result _ c.requires.split c.requires.fits c.requires.leads
    (ready c.args.split.now c.args.value.now c.args.number c.args.root [] c.requires.fits c.requires.leads c.as_slice.result.now c.as_slice.ensures _ c.as_slice-2.result.now
    c.as_slice-2.ensures c.index-as_slice-start.result c.own_dims-depth.result (c.own_dims-depth.ensures ∙ ap (λ (n : Node). n.params.dims) c.index-as_slice-start.is) c.as_slice-3.result.now c.as_slice-3.ensures c.index-as_slice-number.result c.as_slice-4.result.now
    c.as_slice-4.ensures _ c.as_slice-series.result.now (c.as_slice-series.ensures ∙ c.index-as_slice-root.is))

pub returns : goal.returns
returns c =
    spelled-node c.args.split.now c.args.value.now c.args.number c.args.root _ c.own_dims-depth.result _ c.new-items.result c.spell.new.items c.requires.leads
    (ready c.args.split.now c.args.value.now c.args.number c.args.root [] c.requires.fits c.requires.leads c.as_slice.result.now c.as_slice.ensures _ c.as_slice-2.result.now
    c.as_slice-2.ensures c.index-as_slice-start.result c.own_dims-depth.result (c.own_dims-depth.ensures ∙ ap (λ (n : Node). n.params.dims) c.index-as_slice-start.is) c.as_slice-3.result.now c.as_slice-3.ensures c.index-as_slice-number.result c.as_slice-4.result.now
    c.as_slice-4.ensures _ c.as_slice-series.result.now (c.as_slice-series.ensures ∙ c.index-as_slice-root.is))
    c.new-items.ensures c.in_ok-spell.ensures
