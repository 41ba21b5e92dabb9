use Rattle.std.proofs.Common.{◌≡◌, ◌∙◌, Some, slice_get, sym, subst}
use Rattle.std.specs.Prelude.{option_map}
use Rattle.std.proofs.lemmas.Result.{IfOk-weaker}
use Rattle.type_split.specs.Streams.{plain_split}
use Rattle.type_split.specs.declared.split.Phys.{Phys}
use Rattle.logical_value.specs.Tree.{plain_port}
use Rattle.value_views.specs.Series.{series_of_nodes}
use Rattle.value_views.specs.Spelled.{flat_of}
use Rattle.value_views.proofs.SpellLemmas.{node-items, same-stream, stream-there}
use Rattle.value_views.proofs.ViewLemmas.{stream-within}
use Rattle.value_views.proofs.spelling.view_items.Goals as goal

pub find_node-requires-clause-number : goal.find_node-requires-clause-number
find_node-requires-clause-number c = stream-within c.args.split.now c.args.stream c.as_slice.result.now c.index-as_slice-stream.result c.requires.split c.requires.stream c.as_slice.ensures

pub returns-then-is_empty : goal.returns-then-is_empty
returns-then-is_empty c =
    let split = plain_split c.args.split.now in
    let roots = plain_port c.args.value.now in
    let one = c.index-as_slice-stream.result in
    let there = stream-there c.args.split.now.streams c.as_slice.result.now c.args.stream one c.requires.stream c.as_slice.ensures c.index-as_slice-stream.is in
    IfOk-weaker c.root_items.result _ _
    (λ all spells phys view found viewed.
    let same = sym c.index-as_slice-stream.is ∙ same-stream split c.requires.split roots c.requires.fits c.args.stream phys found one there in
    node-items split c.requires.split roots c.requires.fits c.args.stream phys found all
    (subst (λ (s : Phys). option_map flat_of (slice_get (series_of_nodes split.nodes roots) s.node) ≡ Some all) same spells) view viewed)
    c.root_items.ensures
