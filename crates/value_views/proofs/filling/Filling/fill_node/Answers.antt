use Rattle.std.proofs.Common.{◌∙◌, ◌-◌, ◌++◌, ◌∷◌, [], List, ap, arith, map, sym}
use Rattle.std.proofs.lemmas.List.{length-map, map-append}
use Rattle.std.proofs.lemmas.Result.{on_ok_weaker}
use Rattle.logical_types.specs.Tree.{plain}
use Rattle.logical_value.specs.Tree as values
use Rattle.logical_value.specs.declared.value.Value.{Value}
use Rattle.type_split.specs.Nodes.{number_of_streams}
use Rattle.type_split.specs.Streams.{node_view, plain_split}
use Rattle.value_views.specs.Giving.{plain_series}
use Rattle.value_views.specs.Series.{leaves}
use Rattle.value_views.specs.Taking.{left}
use Rattle.value_views.proofs.FillLemmas.{filled-node, found-at, root-filled, tied-filled}
use Rattle.value_views.proofs.GivenNodeLemmas.{few-inside, node-at, nodes-few}
use Rattle.value_views.proofs.filling.Filling.fill_node.Goals as goal

pub fill_series-requires : goal.fill_series-requires
fill_series-requires c =
    let split = plain_split c.args.split.now in
    let node = node_view c.index-as_slice-number.result in
    let found = node-at c.args.split.now c.args.number c.as_slice.result.now c.index-as_slice-number.result c.as_slice.ensures c.requires.number c.index-as_slice-number.is in
    let few = few-inside split c.args.number node c.requires.port found in
    let all = nodes-few split c.requires.port in
    let same = ap (λ t. number_of_streams (plain t)) c.element_of.ensures in
    record { few = omega (arith, few, all, same) }

pub returns-then-is_root : goal.returns-then-is_root
returns-then-is_root c = λ given all filled placed filling.
    let split = plain_split c.args.split.now in
    let node = node_view c.index-as_slice-number.result in
    let found = node-at c.args.split.now c.args.number c.as_slice.result.now c.index-as_slice-number.result c.as_slice.ensures c.requires.number c.index-as_slice-number.is in
    let count = length-map c.args.split.now.nodes node_view in
    let less = c.requires.number in
    let long = filled.long in
    let one = found-at all c.args.number (omega (arith, less, long, count)) in
    let here = filled-node split given all c.args.number (left c.args.self.now) (left c.fill_series.new.self) (plain_series c.args.roots.now) node one.one (plain c.element_of.result.now) c.dims_of.result
    (map values.plain c.args.ones) (map values.plain c.in_ok-filled.filled) filled filling found one.is (ap plain c.element_of.ensures) c.dims_of.ensures placed c.in_ok-filled.ensures in
    on_ok_weaker c.push.result
    (λ pushed. root-filled split given all c.args.number (left c.args.self.now) (left c.fill_series.new.self) (plain_series c.args.roots.now) (plain_series c.push.new.self) node one.one filled filling
    found one.is (sym c.is_root.ensures ∙ c.if-is_root.true) here.1
    (ap plain_series pushed ∙ map-append (λ (s : List Value). map values.plain s) c.args.roots.now (c.in_ok-filled.filled ∷ []) ∙ ap (λ s. plain_series c.args.roots.now ++ s ∷ []) here.0))
    c.push.ensures.ok

pub returns : goal.returns
returns c = λ given all filled placed filling.
    let split = plain_split c.args.split.now in
    let node = node_view c.index-as_slice-number.result in
    let found = node-at c.args.split.now c.args.number c.as_slice.result.now c.index-as_slice-number.result c.as_slice.ensures c.requires.number c.index-as_slice-number.is in
    let count = length-map c.args.split.now.nodes node_view in
    let less = c.requires.number in
    let long = filled.long in
    let one = found-at all c.args.number (omega (arith, less, long, count)) in
    let here = filled-node split given all c.args.number (left c.args.self.now) (left c.fill_series.new.self) (plain_series c.args.roots.now) node one.one (plain c.element_of.result.now) c.dims_of.result
    (map values.plain c.args.ones) (map values.plain c.in_ok-filled.filled) filled filling found one.is (ap plain c.element_of.ensures) c.dims_of.ensures placed c.in_ok-filled.ensures in
    on_ok_weaker c.put.result
    (λ put. tied-filled split given all c.args.number (left c.args.self.now) (left c.fill_series.new.self) (left c.put.new.self) (plain_series c.args.roots.now) node one.one filled filling found one.is
    (sym c.is_root.ensures ∙ c.if-is_root.false) here.1
    (put.0 ∙ c.in_ok-queue.ensures ∙ ap (λ d. leaves d (map values.plain c.in_ok-filled.filled)) c.cut_of.ensures ∙ ap (leaves (node.params.dims - node.own_dims)) here.0) put.1)
    c.put.ensures
