use Rattle.std.proofs.Common.{◌∙◌, ap}
use Rattle.std.proofs.lemmas.Result.{IfOk-weaker}
use Rattle.nest_shape.specs.Flat.{flat_all}
use Rattle.nest_shape.specs.Tree.{trees_of}
use Rattle.type_split.specs.Streams.{plain_split}
use Rattle.type_split.specs.declared.split.Phys.{Phys}
use Rattle.logical_value.specs.Tree.{plain_port}
use Rattle.value_views.proofs.SpellLemmas.{flat-so, same-stream, series-so, stream-there, view-items, view-series}
use Rattle.value_views.proofs.spelling.nested_items.Goals as goal

pub flatten-requires : goal.flatten-requires
flatten-requires c =
    let one = c.index-as_slice-stream.result in
    let there = stream-there c.args.split.now.streams c.as_slice.result.now c.args.stream one c.requires.stream c.as_slice.ensures c.index-as_slice-stream.is in
    let fits = view-series (plain_split c.args.split.now) c.requires.split (plain_port c.args.value.now) c.requires.fits c.args.stream one there c.in_ok-series.series c.in_ok-series.ensures in
    series-so _ _ _ _ (ap (λ (s : Phys). s.params.dims) c.phys.view_is) c.as_slice-2.ensures fits

pub returns : goal.returns
returns c =
    let split = plain_split c.args.split.now in
    let roots = plain_port c.args.value.now in
    let one = c.index-as_slice-stream.result in
    let there = stream-there c.args.split.now.streams c.as_slice.result.now c.args.stream one c.requires.stream c.as_slice.ensures c.index-as_slice-stream.is in
    IfOk-weaker c.flatten.result _ _
    (λ all flat phys view found viewed.
    let flat_is = flat-so _ _ _ _ _ (ap (λ (s : Phys). s.params.dims) c.phys.view_is) c.as_slice-2.ensures flat in
    view-items split c.requires.split roots c.requires.fits c.args.stream one there c.in_ok-series.series all c.in_ok-series.ensures flat_is view viewed
    ∙ ap (λ (s : Phys). flat_all s.params.dims (trees_of view)) (same-stream split c.requires.split roots c.requires.fits c.args.stream phys found one there))
    c.flatten.ensures
