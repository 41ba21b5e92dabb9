use Rattle.std.proofs.Common.{ℕ, List, ap, arith, subst}
use Rattle.std.proofs.lemmas.List.{length-map}
use Rattle.logical_types.specs.Tree.{plain}
use Rattle.type_split.specs.Streams.{node_view, plain_split}
use Rattle.value_views.specs.Giving.{plain_series}
use Rattle.value_views.specs.Walking.{Compares}
use Rattle.value_views.proofs.CheckingLemmas.{port-can, some-node, walk-answers}
use Rattle.value_views.proofs.GivenNodeLemmas.{node-at}
use Rattle.value_views.proofs.joining.check_series.Goals as goal

pub compare-requires : goal.compare-requires
compare-requires c =
    let some = some-node (plain_split c.args.split.now) c.requires.1.can.port in
    let count = length-map c.args.split.now.nodes node_view in
    let found = node-at c.args.split.now 0 c.as_slice.result.now c.index-as_slice-0.result c.as_slice.ensures (omega (arith, some, count)) c.index-as_slice-0.is in
    port-can (plain_split c.args.split.now) c.requires.0 (plain_series c.args.given.now) (node_view c.index-as_slice-0.result) (plain c.element_of.result.now) c.dims_of.result
    c.requires.1.can c.requires.1.given found (ap plain c.element_of.ensures) c.dims_of.ensures

pub returns : goal.returns
returns c views give =
    let some = some-node (plain_split c.args.split.now) give.can.port in
    let count = length-map c.args.split.now.nodes node_view in
    let found = node-at c.args.split.now 0 c.as_slice.result.now c.index-as_slice-0.result c.as_slice.ensures (omega (arith, some, count)) c.index-as_slice-0.is in
    walk-answers (plain_split c.args.split.now) views (plain_series c.args.given.now) c.compare.new.way (node_view c.index-as_slice-0.result)
    (plain c.element_of.result.now) c.dims_of.result c.compare.result give.can give.given found (ap plain c.element_of.ensures) c.dims_of.ensures
    (subst (λ (w : List ℕ). Compares (plain_split c.args.split.now) (plain_series c.args.given.now) w c.compare.new.way 0 1 c.dims_of.result (plain c.element_of.result.now) c.compare.result)
    c.new-way.ensures c.compare.ensures)
